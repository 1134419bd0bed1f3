-- Laws of the run of origins.
use Prim.Native.Nat.{ℕ, ◌+◌, ◌-◌, ◌^◌, ◌≤◌, ◌<◌}
use mathlib.Core.Path.{◌≡◌, refl, sym, ap, ap₂, ◌∙◌}
use mathlib.Core.List.{[], ◌∷◌}
use mathlib.Core.Bool.{Bool, true, false, false≢true}
use native.Mathlib.Omega.{arith}
use native.Mathlib.Nat.{add-zero}
use borrow.Author.Tests.{eqb-true}
use lib.Dec.{eqb}
use lib.ListN.{length, get_or, drop}
use lib.Seq.{sets}
use Rattle.order.specs.Map.{Item, All}
use Rattle.change.specs.Change.{Change, announce}
use Rattle.number.specs.Bytes.{part}
use Rattle.body.specs.declared.tag.Form.TheVariants.{Snapshot, Delta}
use Rattle.body.specs.Tag.{tag_of, kind_of}
use Rattle.field.specs.Key.{key_of}
use Rattle.field.specs.Places.{key_in}
use Rattle.field.specs.If.{If}
use Rattle.field.proofs.Run.{cells_more}
use Rattle.field.proofs.Common.{Found, found_origin}
use Rattle.payload.specs.Content.{Bytes}
use Rattle.payload.specs.Valid.{Valid}
use Rattle.item.specs.declared.reading.Reading.TheVariants.{Announced}
use Rattle.item.specs.Place.{item_in}
use Rattle.item.specs.Reading.{item_as, read_as, Ready}
use Rattle.item.proofs.Readings.{says_cons}
use Rattle.item.proofs.Heres.{here, cell, next, reads, behind, within, lies}
use Rattle.message.specs.declared.version.Version.{Version}
use Rattle.message.specs.Message.{pdu}
use Rattle.pdu.specs.Write.{ipv4_of, ipv6_of, size_of, Lies23, Sayable, PutIs}
use Rattle.pdu.proofs.Records.{origin_lies, ipv4_size, ipv4_message_lem, ipv6_size, ipv6_message_lem, no_room, put_all}
use Rattle.wire.specs.declared.tally.Tally.{Tally}
use Rattle.wire.specs.declared.origins.RunEnd.{RunEnd}
use Rattle.wire.specs.Tally.{Says, ItemIs}
use Rattle.wire.specs.Left.{Left, Listed, counted, origin_key, origin_act, origin_pdu, OriginAt, Passed}
use Rattle.wire.proofs.Saying.{tally_path}
use Rattle.wire.proofs.Counting.{origins_spoken, item_said}
use Rattle.wire.proofs.Looping.{left_one, listed_more, listed_room}

-- ---- origin_at

-- a no decides nothing
pub no_origin : (s : Bytes) (at n : ℕ) → If false (OriginAt s at n)
no_origin s at n = record { holds = λ e. absurd (false≢true e) }

-- an origin's field as an item
origin_item : (tag : ℕ) (b : Bytes) → tag ≡ 1 → item_as Announced (record { tag = tag; body = b }) ≡ record { key = 1 ∷ b; val = announce [] }
unfolding tag_of kind_of key_of
origin_item tag b e = rw e

module _ (s : Bytes) (at : ℕ) (r : Ready Announced s at) (h : 26 ≤ length s - at) where
  inside : at < length s
  inside = omega arith

  abbrev f : Found Snapshot s at
  f = here Snapshot s at r.good inside

  module _ (k : get_or s at 0 ≡ 1) where
    size : length f.body ≡ 23
    size = found_origin s at f k

    body_is : f.body ≡ part s (at + 3) (at + 26)
    body_is =
        let z : at + 26 - (at + 3) ≡ 23 = omega arith in
        lies Snapshot s at r.good inside ∙ rw (size, z)

    next_is : next Snapshot s at r.good inside ≡ at + 26
    next_is = omega (arith, size)

    item_is : item_as Announced (cell Snapshot s at r.good inside) ≡ item_in s s (origin_key at) (origin_act at)
    item_is =
        let z : at + 26 - (at + 26) ≡ 0 = omega arith in
        origin_item f.tag f.body (sym f.is ∙ k)
        ∙ ap (λ (b : Bytes). record { key = 1 ∷ b; val = announce [] }) body_is
        ∙ rw z

    origin : OriginAt s at (get_or s (at + 3) 0)
    origin = record {
      family = refl;
      key = record { fits = record { ordered = omega arith; within = omega arith }; kind = omega arith; short = omega arith };
      is = says_cons (drop at s) (cell Snapshot s at r.good inside) (drop (next Snapshot s at r.good inside) s) Announced
          (cells_more (drop at s) f.tag f.body (drop (next Snapshot s at r.good inside) s) (reads Snapshot s at r.good inside))
          ∙ ap₂ (λ (x : Item Bytes (Change Bytes)) (n : ℕ). x ∷ read_as Announced (drop n s)) item_is next_is;
      next = rw (← next_is) (record { good = behind Snapshot s at r.good inside; within = within Snapshot s at r.good inside });
    }

    pub is_origin : (n : ℕ) → If (eqb (get_or s (at + 3) 0) n) (OriginAt s at n)
    is_origin n = record { holds = λ z. rw (eqb-true (get_or s (at + 3) 0) n z) at origin }

pub ruleset origins_at = (no_origin, is_origin)

-- ---- put_four, put_six

module _ (s : Bytes) (at n : ℕ) (c : OriginAt s at n) where
  sayable : Sayable s (origin_key at)
  sayable = record { inside = c.key; origin = λ h. omega arith; other = λ h. absurd (h refl) }

  pub one_lies : Lies23 s (at + 3)
  one_lies = origin_lies s (origin_key at) sayable refl

  pub one_place : at + 26 ≤ length s
  one_place = c.next.within

module _ (v : Version) (s : Bytes) (at : ℕ) (o : Bytes) (i : ℕ) where
  module _ (c : OriginAt s at 4) where
    four_size : 20 ≡ size_of (key_in s (origin_key at))
    four_size = ipv4_size s (origin_key at) (sayable s at 4 c) refl c.family

    pub four_none : length o < i + 20 → PutIs (origin_pdu v s at) o i o 20
    four_none = no_room s (origin_key at) (sayable s at 4 c) 20 four_size v 1 o i

    pub four_put : (p : Bytes) → p ≡ sets o i (pdu v (ipv4_of 1 (part s (at + 3) (at + 3 + 23)))) → PutIs (origin_pdu v s at) o i p 20
    four_put p q = put_all s (origin_key at) (sayable s at 4 c) 20 four_size v 1 o p i (ipv4_message_lem s (origin_key at) (sayable s at 4 c) refl c.family v 1 o p i q)

  module _ (c : OriginAt s at 6) where
    not_four : get_or s (at + 3) 0 ≡ 4 → ⊥
    not_four e = omega (arith, c.family)

    six_size : 32 ≡ size_of (key_in s (origin_key at))
    six_size = ipv6_size s (origin_key at) (sayable s at 6 c) refl not_four

    pub six_none : length o < i + 32 → PutIs (origin_pdu v s at) o i o 32
    six_none = no_room s (origin_key at) (sayable s at 6 c) 32 six_size v 1 o i

    pub six_put : (p : Bytes) → p ≡ sets o i (pdu v (ipv6_of 1 (part s (at + 3) (at + 3 + 23)))) → PutIs (origin_pdu v s at) o i p 32
    six_put p q = put_all s (origin_key at) (sayable s at 6 c) 32 six_size v 1 o p i (ipv6_message_lem s (origin_key at) (sayable s at 6 c) refl not_four v 1 o p i q)

pub ruleset one = (one_lies, one_place, four_none, four_put, six_none, six_put)

-- ---- put_run

pub record Running (v : Version) (s : Bytes) (from : ℕ) (t : Tally) (o₀ : Bytes) (at : ℕ) (o : Bytes) (len announced : ℕ) : Type 0 where
  pub long : length o ≡ length o₀
  pub on : from ≤ at
  pub listed : Listed s at (counted t len announced)
  pub left : Left v (counted t len announced) o (read_as Announced (drop at s)) t o₀ (read_as Announced (drop from s))

pub run_start : (v : Version) (s : Bytes) (from : ℕ) (t : Tally) (o : Bytes) → Listed s from t → Running v s from t o from o t.len t.announced
run_start v s from t o l = record { long = refl; on = omega arith; listed = l; left = record { tally = refl; same = refl; laid = λ g. refl } }

module _ (v : Version) (s : Bytes) (from : ℕ) (t : Tally) (o₀ : Bytes) (at : ℕ) (o : Bytes) (len announced : ℕ) (i : Running v s from t o₀ at o len announced) where
  pub run_ready : Ready Announced s at
  run_ready = i.listed.ready

  pub run_len : len < 2 ^ 62
  run_len = (listed_room s at _ i.listed).len

  pub run_done : (r : RunEnd) → r ≡ record { at = at; tally = counted t len announced } → Passed v s from t o₀ o r
  run_done r e = rw e (record { on = i.on; listed = i.listed; left = i.left })

  module _ (n : ℕ) (b : Bool) (c : If b (OriginAt s at n)) (e : b ≡ true) where
    pub here_is : OriginAt s at n
    here_is = c.holds e

    pub run_inside : at + 26 ≤ length s
    run_inside = here_is.next.within

    pub run_announced : announced + 1 < 2 ^ 64
    run_announced = let z = (listed_room s at _ i.listed).announced in omega arith

    pub run_less : length s - (at + 26) < length s - at
    run_less = let z = run_inside in omega arith

    module _ (o' : Bytes) (size : ℕ) (p : PutIs (origin_pdu v s at) o len o' size) where
      pub run_sum : len + size < 2 ^ 64
      run_sum = omega (arith, run_len, p.small)

      says : Says s (origin_key at) (origin_act at)
      says =
          let a : All (Valid Delta) (item_in s s (origin_key at) (origin_act at) ∷ read_as Announced (drop (at + 26) s)) = rw here_is.is at i.listed.valid in
          record { key_in_lem = here_is.key; valid = a.0 }

      item : ItemIs v (item_in s s (origin_key at) (origin_act at)) (counted t len announced) o o' (counted t (len + size) (announced + 1))
      item =
          item_said v s (origin_key at) (origin_act at) says (counted t len announced) true (sym (origins_spoken v)) refl 1 refl o o' size p (counted t (len + size) (announced + 1))
          (tally_path refl refl (sym (add-zero t.withdrawn)) refl refl)

      pub run_again : Running v s from t o₀ (at + 26) o' (len + size) (announced + 1)
      run_again = record {
        long = p.same ∙ i.long;
        on = omega (arith, i.on);
        listed = listed_more s at (at + 26) _ _ _ i.listed (omega arith) here_is.next item.steps here_is.is;
        left = left_one v _ o _ t o₀ _ i.left (item_in s s (origin_key at) (origin_act at)) (read_as Announced (drop (at + 26) s)) o' _ here_is.is item;
      }

pub ruleset running = (run_start, run_ready, run_len, run_done, here_is, run_inside, run_announced, run_less, run_sum, run_again)
