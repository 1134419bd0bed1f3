-- The length of what the messages leave: the snapshot's, with the fields announced and without the fields withdrawn.
use Prim.Native.Nat.{ℕ, ◌+◌}
use mathlib.Core.Path.{◌≡◌, refl, sym, ap, ◌∙◌}
use mathlib.Core.List.{List, [], ◌∷◌, ◌++◌, map, append-nil}
use mathlib.Core.Option.{Option, none, some}
use mathlib.Core.Bool.{Bool, true, false, not, cond}
use native.Mathlib.Omega.{arith}
use lib.ListN.{length, get_or, drop, length-append}
use Rattle.std.specs.declared.cmp.Ordering.{Ordering}
use Rattle.std.specs.declared.cmp.Ordering.TheVariants.{Less, Equal, Greater}
use Rattle.order.specs.Comparison.{bytes, flip}
use Rattle.order.specs.Map.{Item, own, lookup, Sorted}
use Rattle.order.proofs.Never.{never}
use Rattle.order.proofs.Comparison.{strings}
use Rattle.order.proofs.Map.{none≢some, absent}
use Rattle.order.proofs.Walk.{walk_nil, walk_right, walk_less, walk_equal, walk_greater}
use Rattle.change.specs.Change.{announce, withdraw}
use Rattle.change.specs.Difference as change
use Rattle.change.specs.Application.{apply_at, apply}
use Rattle.change.proofs.Whole.{apply_none}
use Rattle.body.specs.declared.tag.Form.TheVariants.{Snapshot}
use Rattle.field.specs.Cells as run
use Rattle.payload.specs.Content.{Bytes}
use Rattle.payload.specs.Valid.{IsMap}
use Rattle.payload.specs.Payload.{encode}
use Rattle.message.specs.Take.{all, take}
use Rattle.message.proofs.Taking.{take_none}
use Rattle.heard.specs.Place.{key_at, announces_at, told_at, Payload, Messages, done, more}
use Rattle.judge.specs.Walk.{is_some}
use Rattle.judge.proofs.Records.{told_record, empty_at, wrong, after, after_map, take_right, take_wrong}
use Rattle.judge.proofs.Settled.{misfit≢all}

-- the length of a record's field, and of an item's
abbrev pub field_length : Bytes → ℕ
field_length k = length (run.field (get_or k 0 0) (drop 1 k))

width : Item Bytes Bytes → ℕ
width x = 3 + length (drop 1 x.key ++ x.val)

cons_length : (x : Item Bytes Bytes) (A : change.Snapshot Bytes Bytes) → length (encode Snapshot (x ∷ A)) ≡ width x + length (encode Snapshot A)
unfolding encode run.cell_bytes run.field width
cons_length x A = omega (arith, length-append (drop 1 x.key ++ x.val) (encode Snapshot A))

bare_width : (k : Bytes) → width (record { key = k; val = [] }) ≡ field_length k
unfolding run.field width
bare_width k = omega (arith, ap length (append-nil (drop 1 k)))

-- ---- one item

abbrev L : change.Snapshot Bytes Bytes → ℕ
L A = length (encode Snapshot A)

module _ (k : Bytes) where
  abbrev new : Bytes → change.Delta Bytes Bytes
  new n = record { key = k; val = announce n } ∷ []

  abbrev gone : Bytes → change.Delta Bytes Bytes
  gone p = record { key = k; val = withdraw p } ∷ []

  one_new : (n : Bytes) (A : change.Snapshot Bytes Bytes) → lookup bytes k A ≡ none → L (apply bytes A (new n)) ≡ width (record { key = k; val = n }) + L A
  one_new n [] e = rw (walk_right bytes apply_at (record { key = k; val = announce n }) [], walk_nil bytes apply_at) (cons_length (record { key = k; val = n }) [])
  one_new n (y ∷ A) e = go (bytes y.key k) refl (strings.turn y.key k) e (one_new n A)
    where
      go : (o : Ordering) → bytes y.key k ≡ o → bytes k y.key ≡ flip (bytes y.key k) → own (bytes k y.key) (some y.val) (lookup bytes k A) ≡ none →
          (lookup bytes k A ≡ none → L (apply bytes A (new n)) ≡ width (record { key = k; val = n }) + L A) →
          L (apply bytes (y ∷ A) (new n)) ≡ width (record { key = k; val = n }) + L (y ∷ A)
      go Less c t h i =
          let g : lookup bytes k A ≡ none = rw (t, c) at h in
          rw (walk_less bytes apply_at y A (record { key = k; val = announce n }) [] c)
          (omega (arith, cons_length y (apply bytes A (new n)), cons_length y A, i g))
      go Equal c t h i = none≢some {v = y.val} h (rw (t, c))
      go Greater c t h i =
          rw (walk_greater bytes apply_at y A (record { key = k; val = announce n }) [] c, apply_none bytes bytes (y ∷ A))
          (cons_length (record { key = k; val = n }) (y ∷ A))

  one_gone : (v p : Bytes) (A : change.Snapshot Bytes Bytes) → Sorted bytes A → lookup bytes k A ≡ some v → L (apply bytes A (gone p)) + width (record { key = k; val = v }) ≡ L A
  one_gone v p [] s e = none≢some refl e
  one_gone v p (y ∷ A) s e = go (bytes y.key k) refl (strings.turn y.key k) e (one_gone v p A s.1)
    where
      go : (o : Ordering) → bytes y.key k ≡ o → bytes k y.key ≡ flip (bytes y.key k) → own (bytes k y.key) (some y.val) (lookup bytes k A) ≡ some v →
          (lookup bytes k A ≡ some v → L (apply bytes A (gone p)) + width (record { key = k; val = v }) ≡ L A) →
          L (apply bytes (y ∷ A) (gone p)) + width (record { key = k; val = v }) ≡ L (y ∷ A)
      go Less c t h i =
          let g : lookup bytes k A ≡ some v = rw (t, c) at h in
          rw (walk_less bytes apply_at y A (record { key = k; val = withdraw p }) [] c)
          (omega (arith, cons_length y (apply bytes A (gone p)), cons_length y A, i g))
      go Equal c t h i =
          let f : some y.val ≡ some v = rw (t, c) at h in
          let q : y.val ≡ v = cc in
          let w : width (record { key = k; val = v }) ≡ width y = rw (← q, ← strings.same y.key k c) in
          rw (walk_equal bytes apply_at y A (record { key = k; val = withdraw p }) [] c, apply_none bytes bytes A)
          (omega (arith, cons_length y A, w))
      go Greater c t h i = none≢some (absent strings k (y ∷ A) (t ∙ ap flip c) s) e

-- ---- one message

module _ (A : change.Snapshot Bytes Bytes) (s : Bytes) (x : ℕ) (p : Payload s x) (m : IsMap Snapshot A) where
  after_length : wrong A s x ≡ false → L (after A s x) + cond (announces_at s x) 0 (field_length (key_at s x)) ≡ L A + cond (announces_at s x) (field_length (key_at s x)) 0
  after_length w = go (announces_at s x) (lookup bytes (key_at s x) A) refl w
    where
      go : (f : Bool) (o : Option Bytes) → lookup bytes (key_at s x) A ≡ o → cond f (is_some o) (not (is_some o)) ≡ false →
          L (apply bytes A (record { key = key_at s x; val = cond f (announce []) (withdraw []) } ∷ [])) + cond f 0 (field_length (key_at s x)) ≡ L A + cond f (field_length (key_at s x)) 0
      go true none e h = omega (arith, one_new (key_at s x) [] A e, bare_width (key_at s x))
      go true (some v) e h = never cc
      go false none e h = never cc
      go false (some v) e h =
          let q : v ≡ [] = empty_at (key_at s x) v A (told_record s x p) m.valid e in
          let f : lookup bytes (key_at s x) A ≡ some [] = e ∙ ap some q in
          omega (arith, one_gone (key_at s x) [] [] A m.sorted f, bare_width (key_at s x))

-- ---- all messages; the two sums as whoever counts defines them

module _ (s : Bytes) (plus minus : List ℕ → ℕ)
    (plus_end : plus [] ≡ 0) (plus-more : (x : ℕ) (xs : List ℕ) → plus (x ∷ xs) ≡ cond (announces_at s x) (field_length (key_at s x)) 0 + plus xs)
    (minus-end : minus [] ≡ 0) (minus-more : (x : ℕ) (xs : List ℕ) → minus (x ∷ xs) ≡ cond (announces_at s x) 0 (field_length (key_at s x)) + minus xs) where
  pub taken_length : {at stop : ℕ} {xs : List ℕ} (A B : change.Snapshot Bytes Bytes) → IsMap Snapshot A → Messages s at xs stop →
      take A (map (told_at s) xs) ≡ all B → length (encode Snapshot B) + minus xs ≡ length (encode Snapshot A) + plus xs
  taken_length A B m done e =
      let q : A ≡ B = cc (take_none A) in
      rw (plus_end, minus-end, q)
  taken_length A B m (more {at = x} {xs = xs} p ms) e = go (wrong A s x) refl (taken_length (after A s x) B (after_map A s x p m) ms)
    where
      go : (b : Bool) → wrong A s x ≡ b → (take (after A s x) (map (told_at s) xs) ≡ all B → L B + minus xs ≡ L (after A s x) + plus xs) →
          L B + minus (x ∷ xs) ≡ L A + plus (x ∷ xs)
      go true w i = misfit≢all (sym (take_wrong A s x (map (told_at s) xs) p m.valid w) ∙ e)
      go false w i =
          let h = i (sym (take_right A s x (map (told_at s) xs) p m.valid w) ∙ e) in
          rw (plus-more x xs, minus-more x xs) (omega (arith, h, after_length A s x p m w))
