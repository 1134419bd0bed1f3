-- What stands at a place, as message's reading and hearing see it.
use Prim.Native.Nat.{ℕ, zero, suc, ◌+◌, ◌-◌, ◌≤◌}
use mathlib.Core.Path.{◌≡◌, refl, sym, ap, ◌∙◌}
use mathlib.Core.List.{[], ◌++◌}
use mathlib.Core.Bool.{Bool, true, false, cond, ◌&&◌, false≢true}
use mathlib.Core.Option.{Option, none, some}
use native.Mathlib.Omega.{arith}
use borrow.Author.Tests.{eq-eqb, ne_eqb, eqb-true, leb-true}
use lib.Dec.{leb, eqb}
use lib.ListN.{length, get_or, drop, length-drop}
use lib.Seq.{get_or-drop, drop-drop, take-add, length-take-le}
use Rattle.change.specs.Change.{announce, withdraw}
use Rattle.number.specs.Number.{two_at, four_at}
use Rattle.number.specs.Bytes.{part}
use Rattle.body.specs.RouterKey.{good_router_key}
use Rattle.body.specs.Tag.{tag_of, good_body}
use Rattle.body.proofs.Sizes.{both}
use Rattle.payload.specs.Content.{Bytes}
use Rattle.message.specs.declared.version.Version.{Version}
use Rattle.message.specs.Version.{version_number, speaks, times_in, end_length}
use Rattle.message.specs.Message.{Message, ipv4_prefix, ipv6_prefix, end_of_data, router_key}
use Rattle.message.specs.Record.{payload, misplaced, part_of, good_record, flagged, payload_of}
use Rattle.message.specs.Read.{unread, front, front_of, message_in, sized}
use Rattle.message.specs.Hear as message
use Rattle.heard.specs.Place.{type_at, size_at, flags_at, key_at, told_at, Sized, v4, v6, key, Payload}
use Rattle.heard.specs.Step.{is_whole, sized_at}
use Rattle.heard.proofs.Keys.{two_from, four_from, router_key_lem}

-- ---- bytes behind `at`

module _ (s : Bytes) (at : ℕ) where
  pub two_drop : (j : ℕ) → two_at (drop at s) j ≡ two_at s (at + j)
  two_drop j = rw (get_or-drop at s j 0, get_or-drop at s (j + 1) 0) (sym (two_from s at j))

  pub four_drop : (j : ℕ) → four_at (drop at s) j ≡ four_at s (at + j)
  four_drop j = rw (get_or-drop at s j 0, get_or-drop at s (j + 1) 0, get_or-drop at s (j + 2) 0, get_or-drop at s (j + 3) 0) (sym (four_from s at j))

  pub part_drop : (i j : ℕ) → part (drop at s) i j ≡ part s (at + i) (at + j)
  part_drop i j = let e : at + j - (at + i) ≡ j - i = omega arith in rw (e, drop-drop i at s)

  pub first_drop : get_or (drop at s) 0 0 ≡ get_or s at 0
  first_drop = let z : at + 0 ≡ at = omega arith in get_or-drop at s 0 0 ∙ ap (λ (i : ℕ). get_or s i 0) z

-- ---- whole messages

module _ (v : Version) (t : Bytes) where
  pub front_not : is_whole v t ≡ false → front v t ≡ unread
  unfolding front is_whole
  front_not e = rw e

  pub front_whole : is_whole v t ≡ true → front v t ≡ front_of (message_in v (get_or t 1 0) (four_at t 4) t) (four_at t 4) (drop (four_at t 4) t)
  unfolding front is_whole
  front_whole e = rw e

  pub whole_head : is_whole v t ≡ true → 8 ≤ length t
  unfolding is_whole
  whole_head e = leb-true 8 (length t) (both (leb 8 (length t)) (eqb (get_or t 0 0) (version_number v) && leb (four_at t 4) (length t)) e).0

  pub whole_long : is_whole v t ≡ true → four_at t 4 ≤ length t
  unfolding is_whole
  whole_long e =
      leb-true (four_at t 4) (length t)
      (both (eqb (get_or t 0 0) (version_number v)) (leb (four_at t 4) (length t)) (both (leb 8 (length t)) (eqb (get_or t 0 0) (version_number v) && leb (four_at t 4) (length t)) e).1).1

-- ---- the part that a payload message is

module _ (flags : ℕ) (k : Bytes) where
  pub part_good : leb flags 1 && good_record k ≡ true → payload_of flags k ≡ payload k (cond (eqb flags 1) (announce []) (withdraw []))
  part_good e =
      let b = both (leb flags 1) (good_record k) e in
      rw b.1 (go flags (leb-true flags 1 b.0))
    where
      go : (n : ℕ) → n ≤ 1 → flagged n k ≡ payload k (cond (eqb n 1) (announce []) (withdraw []))
      go zero h = refl
      go (suc zero) h = refl
      go (suc (suc n)) h = absurd (omega arith)

  pub part_bad : leb flags 1 && good_record k ≡ false → payload_of flags k ≡ misplaced
  part_bad e = go (good_record k) refl
    where
      many : (n : ℕ) → leb n 1 ≡ false → flagged n k ≡ misplaced
      many zero h = absurd (false≢true (sym h))
      many (suc zero) h = absurd (false≢true (sym h))
      many (suc (suc n)) h =
          let x : eqb (suc (suc n)) 1 ≡ false = ne_eqb (suc (suc n)) 1 (λ e. omega arith) in
          let y : eqb (suc (suc n)) 0 ≡ false = ne_eqb (suc (suc n)) 0 (λ e. omega arith) in
          rw (x, y)

      few : (b : Bool) → b && true ≡ false → b ≡ false
      few true h = h
      few false h = refl

      go : (b : Bool) → good_record k ≡ b → cond b (flagged flags k) misplaced ≡ misplaced
      go true d = many flags (few (leb flags 1) (rw d at e))
      go false d = refl

-- ---- the message of each type

module _ (v : Version) (t : Bytes) (n : ℕ) where
  pub type_4 : (type : ℕ) → type ≡ 4 → message_in v type n t ≡ sized n 20 (ipv4_prefix (get_or t 8 0) (get_or t 9 0) (get_or t 10 0) (part t 12 16) (part t 16 20))
  unfolding message_in
  type_4 type e = rw e

  pub type_6 : (type : ℕ) → type ≡ 6 → message_in v type n t ≡ sized n 32 (ipv6_prefix (get_or t 8 0) (get_or t 9 0) (get_or t 10 0) (part t 12 28) (part t 28 32))
  unfolding message_in
  type_6 type e = rw e

  pub type_7 : (type : ℕ) → type ≡ 7 → message_in v type n t ≡ sized n (end_length v) (end_of_data (two_at t 2) (four_at t 8) (times_in v (drop 12 t)))
  unfolding message_in
  type_7 type e = rw e

  pub type_9 : (type : ℕ) → type ≡ 9 → message_in v type n t ≡ cond (speaks v 2 && leb 32 n) (some (router_key (get_or t 2 0) (part t 8 28) (part t 28 32) (part t 32 n))) none
  unfolding message_in
  type_9 type e = rw e

-- a router key's body is its three parts
key_parts : (t : Bytes) (n : ℕ) → 32 ≤ n → part t 8 28 ++ (part t 28 32 ++ part t 32 n) ≡ part t 8 n
key_parts t n h =
    let d : n - 8 ≡ 20 + (4 + (n - 32)) = omega arith in
    rw (d, take-add 20 (4 + (n - 32)) (drop 8 t), drop-drop 20 8 t, take-add 4 (n - 32) (drop 28 t), drop-drop 4 28 t)

-- ---- a good payload message

module _ (v : Version) (s : Bytes) (at : ℕ) where
  abbrev t : Bytes
  t = drop at s

  abbrev n : ℕ
  n = size_at s at

  -- the message there has this part
  pub record Reads (m : Message) : Type 0 where
    pub is : message_in v (type_at s at) n t ≡ some m
    pub part : part_of m ≡ payload_of (flags_at s at) (key_at s at)

  four_reads : type_at s at ≡ 4 → n ≡ 20 → (m : Message) × Reads m
  unfolding part_of key_at
  four_reads e h = (
    ipv4_prefix (get_or t 8 0) (get_or t 9 0) (get_or t 10 0) (part t 12 16) (part t 16 20),
    record {
      is = type_4 v t n (type_at s at) e ∙ rw (eq-eqb n 20 h);
      part = rw (e, get_or-drop at s 8 0, get_or-drop at s 9 0, get_or-drop at s 10 0, part_drop s at 12 16, part_drop s at 16 20);
    },
  )

  six_reads : type_at s at ≡ 6 → n ≡ 32 → (m : Message) × Reads m
  unfolding part_of key_at
  six_reads e h = (
    ipv6_prefix (get_or t 8 0) (get_or t 9 0) (get_or t 10 0) (part t 12 28) (part t 28 32),
    record {
      is = type_6 v t n (type_at s at) e ∙ rw (eq-eqb n 32 h);
      part = rw (e, get_or-drop at s 8 0, get_or-drop at s 9 0, get_or-drop at s 10 0, part_drop s at 12 28, part_drop s at 28 32);
    },
  )

  key_reads : type_at s at ≡ 9 → speaks v 2 && leb 32 n ≡ true → (m : Message) × Reads m
  unfolding part_of key_at
  key_reads e h =
      let l : 32 ≤ n = leb-true 32 n (both (speaks v 2) (leb 32 n) h).1 in (
        router_key (get_or t 2 0) (part t 8 28) (part t 28 32) (part t 32 n),
        record {
          is = type_9 v t n (type_at s at) e ∙ rw h;
          part = rw (e, get_or-drop at s 2 0, key_parts t n l, part_drop s at 8 n);
        },
      )

  sized_reads : sized_at v s at ≡ true → (m : Message) × Reads m
  unfolding sized_at
  sized_reads e = go (eqb (type_at s at) 4) (eqb (type_at s at) 6) (eqb (type_at s at) 9) refl refl refl e
    where
      go : (x y z : Bool) → eqb (type_at s at) 4 ≡ x → eqb (type_at s at) 6 ≡ y → eqb (type_at s at) 9 ≡ z
          → cond x (eqb n 20) (cond y (eqb n 32) (cond z (speaks v 2 && leb 32 n) false)) ≡ true → (m : Message) × Reads m
      go true y z p q r h = four_reads (eqb-true (type_at s at) 4 p) (eqb-true n 20 h)
      go false true z p q r h = six_reads (eqb-true (type_at s at) 6 q) (eqb-true n 32 h)
      go false false true p q r h = key_reads (eqb-true (type_at s at) 9 r) h
      go false false false p q r h = absurd (false≢true h)

-- ---- hearing one message

module _ (v : Version) (session : ℕ) (s : Bytes) (at : ℕ) (w : is_whole v (drop at s) ≡ true) (go : ℕ → Bytes → message.Heard) where
  abbrev heard_of : Option Message → message.Heard
  heard_of o = message.hear_front session at (front_of o (size_at s at) (drop (at + size_at s at) s)) go

  pub heard_front : message.hear_front session at (front v (drop at s)) go ≡ heard_of (message_in v (type_at s at) (size_at s at) (drop at s))
  heard_front =
      let e : four_at (drop at s) 4 ≡ size_at s at = four_drop s at 4 in
      let f : get_or (drop at s) 1 0 ≡ type_at s at = get_or-drop at s 1 0 in
      rw (front_whole v (drop at s) w, e, f, drop-drop (size_at s at) at s)

  module _ (p : sized_at v s at ≡ true) where
    heard_part : message.hear_front session at (front v (drop at s)) go ≡ message.hear_part session at (payload_of (flags_at s at) (key_at s at)) (size_at s at) (drop (at + size_at s at) s) go
    heard_part = let m = sized_reads v s at p in heard_front ∙ rw (m.1.is, m.1.part)

    pub heard_good : leb (flags_at s at) 1 && good_record (key_at s at) ≡ true
        → message.hear_front session at (front v (drop at s)) go ≡ message.more (told_at s at) (go (at + size_at s at) (drop (at + size_at s at) s))
    heard_good e = heard_part ∙ rw (part_good (flags_at s at) (key_at s at) e)

    pub heard_bad : leb (flags_at s at) 1 && good_record (key_at s at) ≡ false → message.hear_front session at (front v (drop at s)) go ≡ message.stopped (message.faulty at)
    heard_bad e = heard_part ∙ rw (part_bad (flags_at s at) (key_at s at) e)

  -- what stops the answer at once
  abbrev Stops : Option Message → Type 0
  Stops o = heard_of o ≡ message.stopped (message.faulty at)

  row : (b : Bool) (o rest : Option Message) → (b ≡ true → Stops o) → (b ≡ false → Stops rest) → Stops (cond b o rest)
  row true o rest f g = f refl
  row false o rest f g = g refl

  sized_stops : (m : Message) (due : ℕ) → Stops (some m) → Stops (sized (size_at s at) due m)
  sized_stops m due h = row (eqb (size_at s at) due) (some m) none (λ e. h) (λ e. refl)

  unsized : (m : Message) (due : ℕ) → eqb (size_at s at) due ≡ false → Stops (sized (size_at s at) due m)
  unsized m due e = rw e

  pub heard_other : sized_at v s at ≡ false → (type_at s at ≡ 7 → ⊥) → message.hear_front session at (front v (drop at s)) go ≡ message.stopped (message.faulty at)
  unfolding message_in sized_at part_of
  heard_other p h =
      heard_front
      ∙ row (eqb (type_at s at) 0) _ _ (λ e. sized_stops _ 12 refl) (λ e0.
      row (eqb (type_at s at) 1) _ _ (λ e. sized_stops _ 12 refl) (λ e1.
      row (eqb (type_at s at) 3) _ _ (λ e. sized_stops _ 8 refl) (λ e3.
      row (eqb (type_at s at) 4) _ _ (λ e. unsized _ 20 (rw e at p)) (λ e4.
      row (eqb (type_at s at) 6) _ _ (λ e. unsized _ 32 (rw (e4, e) at p)) (λ e6.
      row (eqb (type_at s at) 7) _ _ (λ e. absurd (h (eqb-true (type_at s at) 7 e))) (λ e7.
      row (eqb (type_at s at) 8) _ _ (λ e. sized_stops _ 8 refl) (λ e8.
      row (eqb (type_at s at) 9) _ _ (λ e. rw (rw (e4, e6, e) at p)) (λ e9.
      row (eqb (type_at s at) 10) _ _ (λ e. sized_stops _ _ refl) (λ e10. refl)))))))))

-- a router key whose record is good is not too long
key_most : (s : Bytes) (at : ℕ) → type_at s at ≡ 9 → 32 ≤ size_at s at → at + size_at s at ≤ length s → good_record (key_at s at) ≡ true → size_at s at ≤ 1_056
unfolding good_body tag_of good_router_key
key_most s at t l w g =
    let b : Bytes = part s (at + 8) (at + size_at s at) in
    let n : length b ≡ size_at s at - 8 = length-take-le (at + size_at s at - (at + 8)) (drop (at + 8) s) (simp length-drop (omega arith)) ∙ omega arith in
    let h : leb 24 (length b) && leb (length b - 24) 1_024 ≡ true = rw (router_key_lem s at t) at g in
    let k = leb-true (length b - 24) 1_024 (both (leb 24 (length b)) (leb (length b - 24) 1_024) h).1 in
    omega arith

-- so it is one by its offset
pub payload_here : (v : Version) (s : Bytes) (at : ℕ) → sized_at v s at ≡ true → leb (flags_at s at) 1 && good_record (key_at s at) ≡ true → at + size_at s at ≤ length s → Payload s at
unfolding sized_at
payload_here v s at e f w =
    let c = both (leb (flags_at s at) 1) (good_record (key_at s at)) f in
    record { sized = go (eqb (type_at s at) 4) (eqb (type_at s at) 6) (eqb (type_at s at) 9) refl refl refl e; within = w; flags = leb-true (flags_at s at) 1 c.0; good = c.1 }
  where
    most : type_at s at ≡ 9 → 32 ≤ size_at s at → size_at s at ≤ 1_056
    most t l = key_most s at t l w (both (leb (flags_at s at) 1) (good_record (key_at s at)) f).1

    go : (x y z : Bool) → eqb (type_at s at) 4 ≡ x → eqb (type_at s at) 6 ≡ y → eqb (type_at s at) 9 ≡ z
        → cond x (eqb (size_at s at) 20) (cond y (eqb (size_at s at) 32) (cond z (speaks v 2 && leb 32 (size_at s at)) false)) ≡ true → Sized s at
    go true y z p q r h = v4 (eqb-true (type_at s at) 4 p) (eqb-true (size_at s at) 20 h)
    go false true z p q r h = v6 (eqb-true (type_at s at) 6 q) (eqb-true (size_at s at) 32 h)
    go false false true p q r h =
        let t = eqb-true (type_at s at) 9 r in
        let l = leb-true 32 (size_at s at) (both (speaks v 2) (leb 32 (size_at s at)) h).1 in
        key t l (most t l)
    go false false false p q r h = absurd (false≢true h)
