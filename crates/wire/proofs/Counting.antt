-- Laws of put_item: an item's message, or that there is none.
use Prim.Native.Nat.{ℕ, ◌+◌, ◌-◌, ◌^◌, ◌≤◌, ◌<◌}
use mathlib.Core.Path.{◌≡◌, refl, sym, ap, ◌∙◌}
use mathlib.Core.List.{[], ◌∷◌}
use mathlib.Core.Bool.{Bool, true, false, not, cond}
use native.Mathlib.Omega.{arith}
use borrow.Author.Tests.{not-true, not-false, eqb-true, leb-true}
use lib.Dec.{eqb, leb}
use lib.ListN.{length, get_or, drop}
use lib.Seq.{sets, length-take-le}
use lib.ListN.{length-drop}
use Rattle.order.proofs.Never.{never}
use Rattle.change.specs.Change.{Change}
use Rattle.number.specs.Bytes.{part}
use Rattle.body.specs.Origin.{good_origin}
use Rattle.body.specs.RouterKey.{good_router_key}
use Rattle.body.proofs.Sizes.{both}
use Rattle.field.specs.declared.key.Key.{Key}
use Rattle.field.specs.Places.{key_in}
use Rattle.payload.specs.Content.{Bytes}
use Rattle.payload.specs.Valid.{ValidValue, ValidChange, origin, router_key, aspa, valid_announce, valid_withdraw, valid_update}
use Rattle.payload.specs.Count.{announces, withdraws}
use Rattle.item.specs.declared.place.Act.{Act}
use Rattle.item.specs.declared.place.Act.TheVariants.{Announce, Withdraw, Update}
use Rattle.item.specs.Place.{change_in, item_in}
use Rattle.message.specs.declared.version.Version.{Version}
use Rattle.message.specs.declared.version.Version.TheVariants.{Rfc6810, Rfc8210}
use Rattle.message.specs.Version.{speaks}
use Rattle.message.specs.Message.{pdu}
use Rattle.message.specs.Record.{message_of, flags_of}
use Rattle.pdu.specs.Write.{flags_place, Sayable, PutIs}
use Rattle.wire.specs.declared.tally.Tally.{Tally}
use Rattle.wire.specs.Tally.{saying, plus_place, skip_place, Countable, Says, ItemIs}
use Rattle.wire.proofs.Saying.{X, tally_path, said_one, sum_one, skipped_said, unsaid_one, sum_unsaid, skipped_unsaid}

-- ---- what a version speaks of

pub origins_spoken : (v : Version) → speaks v 1 ≡ true
origins_spoken Rfc6810 = refl
origins_spoken Rfc8210 = refl

pub aspas_unspoken : (v : Version) → speaks v 3 ≡ false
aspas_unspoken Rfc6810 = refl
aspas_unspoken Rfc8210 = refl

-- ---- valid keys

-- an origin's key has 24 bytes, a router key's at least 25; and there are ASPAs
pub data Shape (k : Bytes) : Type 0 where
  an_origin : get_or k 0 0 ≡ 1 → length (drop 1 k) ≡ 23 → Shape k
  a_router_key : get_or k 0 0 ≡ 2 → 24 ≤ length (drop 1 k) → Shape k
  an_aspa : get_or k 0 0 ≡ 3 → Shape k

value_shape : {k w : Bytes} → ValidValue k w → Shape k
unfolding good_origin good_router_key
value_shape (origin {k} g) = an_origin refl (eqb-true (length k) 23 (both (eqb (length k) 23) _ g).0)
value_shape (router_key {k} g) = a_router_key refl (leb-true 24 (length k) (both (leb 24 (length k)) _ g).0)
value_shape (aspa l p s) = an_aspa refl

pub shape_of : {k : Bytes} {c : Change Bytes} → ValidChange k c → Shape k
shape_of (valid_announce h) = value_shape h
shape_of (valid_withdraw h) = value_shape h
shape_of (valid_update h g) = an_aspa refl

-- ---- flags

pub flags_small : (act : Act) (n : ℕ) → n ≡ flags_place act → n ≤ 1
flags_small (Announce p) n e = omega arith
flags_small (Withdraw p) n e = omega arith
flags_small (Update p q) n e = omega arith

flags_are : (s : Bytes) (act : Act) → flags_place act ≡ flags_of (change_in s s act)
flags_are s (Announce p) = refl
flags_are s (Withdraw p) = refl
flags_are s (Update p q) = refl

flags_announce : (s : Bytes) (act : Act) → announces (change_in s s act) ≡ flags_place act
flags_announce s (Announce p) = refl
flags_announce s (Withdraw p) = refl
flags_announce s (Update p q) = refl

flags_withdraw : (s : Bytes) (act : Act) → withdraws (change_in s s act) ≡ 1 - flags_place act
flags_withdraw s (Announce p) = refl
flags_withdraw s (Withdraw p) = refl
flags_withdraw s (Update p q) = refl

-- ---- put_item

module _ (v : Version) (s : Bytes) (key : Key) (act : Act) (y : Says s key act) (t : Tally) (b : Bool) (eb : b ≡ speaks v key.kind) where
  name_length : length (part s key.from key.to) ≡ key.to - key.from
  name_length =
      let f = y.key_in_lem.fits in
      length-take-le (key.to - key.from) (drop key.from s) (simp length-drop (omega (arith, f.ordered, f.within)))

  -- there is no message for it
  module _ (q : not b ≡ true) (o : Bytes) (r : Tally) (er : r ≡ skip_place t key.kind) where
    unsaid : speaks v key.kind ≡ false
    unsaid = sym eb ∙ not-true b q

    pub item_skipped : ItemIs v (item_in s s key act) t o o r
    item_skipped = go (shape_of y.valid)
      where
        x : X
        x = item_in s s key act

        clash : {A : Type 0} → speaks v key.kind ≡ true → A
        clash e = let z : true ≡ false = sym e ∙ unsaid in never cc

        done : (p a : ℕ) → cond (eqb key.kind 2) 1 0 ≡ p → cond (eqb key.kind 3) 1 0 ≡ a → p ≤ 1 → a ≤ 1 →
            r ≡ record { len = t.len; announced = t.announced; withdrawn = t.withdrawn; keys = t.keys + p; aspas = t.aspas + a } → ItemIs v x t o o r
        done p a ep ea hp ha e = record {
          tally = e ∙ tally_path (omega (arith, ap length (unsaid_one v x unsaid))) (omega (arith, sum_unsaid v x unsaid announces)) (omega (arith, sum_unsaid v x unsaid withdraws))
              (omega (arith, skipped_unsaid v x unsaid 2, ep)) (omega (arith, skipped_unsaid v x unsaid 3, ea));
          steps = rw e (record { len = omega arith; announced = omega arith; withdrawn = omega arith; keys = omega arith; aspas = omega arith });
          same = refl;
          laid = λ g. rw (unsaid_one v x unsaid);
        }

        go : Shape (key_in s key) → ItemIs v x t o o r
        go (an_origin e l) = clash (ap (speaks v) e ∙ origins_spoken v)
        go (a_router_key e l) = done 1 0 (rw e) (rw e) (omega arith) (omega arith) (er ∙ rw e (tally_path refl refl refl refl (omega arith)))
        go (an_aspa e) = done 0 1 (rw e) (rw e) (omega arith) (omega arith) (er ∙ rw e (tally_path refl refl refl (omega arith) refl))

  -- there is one
  module _ (q : not b ≡ false) where
    spoken : speaks v key.kind ≡ true
    spoken = sym eb ∙ not-false b q

    pub item_sayable : Sayable s key
    item_sayable = go (shape_of y.valid)
      where
        go : Shape (key_in s key) → Sayable s key
        go (an_origin e l) = record {
          inside = y.key_in_lem;
          origin = λ h. omega (arith, name_length, l, y.key_in_lem.fits.ordered);
          other = λ h. absurd (h e);
        }
        go (a_router_key e l) = record {
          inside = y.key_in_lem;
          origin = λ h. absurd (omega arith);
          other = λ h. omega (arith, name_length, l, y.key_in_lem.fits.ordered);
        }
        go (an_aspa e) = let z : true ≡ false = sym spoken ∙ ap (speaks v) e ∙ aspas_unspoken v in never cc

    module _ (flags : ℕ) (ef : flags ≡ flags_place act) (o o' : Bytes) (size : ℕ) (p : PutIs (pdu v (message_of flags (key_in s key))) o t.len o' size) where
      pub item_small : size ≤ 1_056
      item_small = p.small

      bytes_are : pdu v (message_of flags (key_in s key)) ≡ saying v (item_in s s key act ∷ [])
      bytes_are = ap (λ (f : ℕ). pdu v (message_of f (key_in s key))) (ef ∙ flags_are s act) ∙ sym (said_one v (item_in s s key act) spoken)

      pub item_said : (r : Tally) → r ≡ plus_place t flags size → ItemIs v (item_in s s key act) t o o' r
      item_said r er =
          let x = item_in s s key act in
          let n : size ≡ length (saying v (x ∷ [])) = p.size ∙ ap length bytes_are in
          let f = flags_small act flags ef in
          record {
            tally = er ∙ tally_path (omega (arith, n)) (omega (arith, sum_one v x spoken announces, flags_announce s act, ef)) (omega (arith, sum_one v x spoken withdraws, flags_withdraw s act, ef))
                (omega (arith, skipped_said v x spoken 2)) (omega (arith, skipped_said v x spoken 3));
            steps = rw er (record { len = omega (arith, p.small); announced = omega arith; withdrawn = omega arith; keys = omega arith; aspas = omega arith });
            same = p.same;
            laid = λ g. p.laid (omega (arith, n, p.size)) ∙ ap (sets o t.len) bytes_are;
          }

pub room_len : (t : Tally) → Countable t → t.len < 2 ^ 62
room_len t r = r.len

pub ruleset counting = (flags_small, room_len, item_skipped, item_sayable, item_small, item_said)
