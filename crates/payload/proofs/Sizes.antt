-- How long the bytes of a difference are: no longer than both snapshots together.
use Prim.Native.Nat.{ℕ, ◌+◌, ◌≤◌}
use mathlib.Core.Path.{◌≡◌, refl, ap}
use mathlib.Core.List.{[], List, ◌∷◌}
use native.Mathlib.Omega.{arith}
use lib.ListN.{length, drop, length-append}
use Rattle.std.specs.declared.cmp.Ordering.{Ordering}
use Rattle.std.specs.declared.cmp.Ordering.TheVariants.{Less, Equal, Greater}
use Rattle.order.specs.Comparison.{bytes}
use Rattle.order.specs.Map.{Item}
use Rattle.order.specs.Walk.{emit}
use Rattle.order.proofs.Comparison.{strings}
use Rattle.order.proofs.Walk.{walk_nil, walk_left, walk_right, walk_less, walk_equal, walk_greater}
use Rattle.change.specs.Change.{announce, withdraw, update, unless_equal}
use Rattle.change.specs.Difference as change
use Rattle.change.specs.Difference.{diff_at, diff}
use Rattle.body.specs.declared.tag.Form.{Form}
use Rattle.body.specs.declared.tag.Form.TheVariants.{Snapshot, Delta}
use Rattle.field.specs.Cells as run
use Rattle.payload.specs.Content.{Bytes, Content, values_for, body_for}
use Rattle.payload.specs.Payload.{encode}

-- the length of an item's field: a head of three bytes, the key and the values
width : (form : Form) → Item Bytes (Content form) → ℕ
width form x = 3 + length (body_for form (drop 1 x.key) x.val)

nil_length : (form : Form) → length (encode form []) ≡ 0
unfolding encode run.cell_bytes
nil_length form = refl

cons_length : (form : Form) (x : Item Bytes (Content form)) (xs : List (Item Bytes (Content form))) →
    length (encode form (x ∷ xs)) ≡ width form x + length (encode form xs)
unfolding encode run.cell_bytes run.field width
cons_length form x xs =
    omega (arith, length-append (body_for form (drop 1 x.key) x.val) (encode form xs))

abbrev S : Type 0
S = change.Snapshot Bytes Bytes

abbrev item : {A : Type 0} → Bytes → A → Item Bytes A
item k c = record { key = k; val = c }

-- an update is no longer than the two fields that it comes from
update_width : (k p n : Bytes) → width Delta (item k (update p n)) ≤ width Snapshot (item k p) + width Snapshot (item k n)
unfolding width
update_width k p n =
    omega (
      arith,
      length-append (drop 1 k) (values_for (update p n)),
      length-append p n,
      length-append (drop 1 k) p,
      length-append (drop 1 k) n,
    )

both_width : (k p n : Bytes) (r : change.Delta Bytes Bytes) (o : Ordering) →
    length (encode Delta (emit k (unless_equal o (update p n)) r)) ≤ width Snapshot (item k p) + width Snapshot (item k n) + length (encode Delta r)
both_width k p n r Less = omega (arith, cons_length Delta (item k (update p n)) r, update_width k p n)
both_width k p n r Equal = omega arith
both_width k p n r Greater = omega (arith, cons_length Delta (item k (update p n)) r, update_width k p n)

gone_width : (k p : Bytes) → width Delta (item k (withdraw p)) ≡ width Snapshot (item k p)
unfolding width
gone_width k p = refl

new_width : (k n : Bytes) → width Delta (item k (announce n)) ≡ width Snapshot (item k n)
unfolding width
new_width k n = refl

module _ (x : Item Bytes Bytes) (A : S) (y : Item Bytes Bytes) (B : S) where
  less_width : bytes x.key y.key ≡ Less → length (encode Delta (diff bytes bytes A (y ∷ B))) ≤ length (encode Snapshot A) + length (encode Snapshot (y ∷ B)) →
      length (encode Delta (diff bytes bytes (x ∷ A) (y ∷ B))) ≤ length (encode Snapshot (x ∷ A)) + length (encode Snapshot (y ∷ B))
  less_width e i = rw (walk_less bytes (diff_at bytes) x A y B e)
      (omega (arith, i, cons_length Delta (item x.key (withdraw x.val)) (diff bytes bytes A (y ∷ B)), cons_length Snapshot x A, gone_width x.key x.val))

  greater_width : bytes x.key y.key ≡ Greater → length (encode Delta (diff bytes bytes (x ∷ A) B)) ≤ length (encode Snapshot (x ∷ A)) + length (encode Snapshot B) →
      length (encode Delta (diff bytes bytes (x ∷ A) (y ∷ B))) ≤ length (encode Snapshot (x ∷ A)) + length (encode Snapshot (y ∷ B))
  greater_width e i = rw (walk_greater bytes (diff_at bytes) x A y B e)
      (omega (arith, i, cons_length Delta (item y.key (announce y.val)) (diff bytes bytes (x ∷ A) B), cons_length Snapshot y B, new_width y.key y.val))

  equal_width : bytes x.key y.key ≡ Equal → length (encode Delta (diff bytes bytes A B)) ≤ length (encode Snapshot A) + length (encode Snapshot B) →
      length (encode Delta (diff bytes bytes (x ∷ A) (y ∷ B))) ≤ length (encode Snapshot (x ∷ A)) + length (encode Snapshot (y ∷ B))
  equal_width e i =
      let k : width Snapshot (item x.key y.val) ≡ width Snapshot y = ap (λ (l : Bytes). width Snapshot (item l y.val)) (strings.same x.key y.key e) in
      rw (walk_equal bytes (diff_at bytes) x A y B e)
      (omega (arith, i, both_width x.key x.val y.val (diff bytes bytes A B) (bytes x.val y.val), cons_length Snapshot x A, cons_length Snapshot y B))

-- a difference is no longer than the two snapshots together
pub diff_length : (A B : S) → length (encode Delta (diff bytes bytes A B)) ≤ length (encode Snapshot A) + length (encode Snapshot B)
diff_length [] [] = rw (walk_nil bytes (diff_at bytes)) (omega (arith, nil_length Delta))
diff_length [] (y ∷ B) = rw (walk_right bytes (diff_at bytes) y B)
    (omega (arith, diff_length [] B, cons_length Delta (item y.key (announce y.val)) (diff bytes bytes [] B), cons_length Snapshot y B, new_width y.key y.val))
diff_length (x ∷ A) [] = rw (walk_left bytes (diff_at bytes) x A)
    (omega (arith, diff_length A [], cons_length Delta (item x.key (withdraw x.val)) (diff bytes bytes A []), cons_length Snapshot x A, gone_width x.key x.val))
diff_length (x ∷ A) (y ∷ B) = go (bytes x.key y.key) refl (diff_length A (y ∷ B)) (diff_length A B) (diff_length (x ∷ A) B)
  where
    go : (o : Ordering) → bytes x.key y.key ≡ o → length (encode Delta (diff bytes bytes A (y ∷ B))) ≤ length (encode Snapshot A) + length (encode Snapshot (y ∷ B)) →
        length (encode Delta (diff bytes bytes A B)) ≤ length (encode Snapshot A) + length (encode Snapshot B) →
        length (encode Delta (diff bytes bytes (x ∷ A) B)) ≤ length (encode Snapshot (x ∷ A)) + length (encode Snapshot B) →
        length (encode Delta (diff bytes bytes (x ∷ A) (y ∷ B))) ≤ length (encode Snapshot (x ∷ A)) + length (encode Snapshot (y ∷ B))
    go Less e i j k = less_width x A y B e i
    go Equal e i j k = equal_width x A y B e j
    go Greater e i j k = greater_width x A y B e k
