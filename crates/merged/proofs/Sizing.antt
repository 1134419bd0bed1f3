-- The merge of deltas is never longer than all of them together.
use Prim.Native.Nat.{ℕ, ◌+◌, ◌≤◌}
use mathlib.Core.Path.{◌≡◌, refl, ap}
use mathlib.Core.List.{List, [], ◌∷◌, map, foldl}
use mathlib.Core.Option.{Option, none, some}
use native.Mathlib.Omega.{arith}
use lib.ListN.{length, take, drop, length-append, length-take}
use lib.Seq.{sets}
use Rattle.std.specs.declared.cmp.Ordering.{Ordering}
use Rattle.std.specs.declared.cmp.Ordering.TheVariants.{Less, Equal, Greater}
use Rattle.order.specs.Comparison.{bytes}
use Rattle.order.specs.Map.{Item, All}
use Rattle.order.specs.Walk.{emit}
use Rattle.order.proofs.Walk.{walk_nil, walk_right, walk_left, walk_less, walk_equal, walk_greater}
use Rattle.change.specs.Change.{Change, announce, withdraw, update, unless_equal}
use Rattle.change.specs.Merge.{table, merge_at, merge, merge_all}
use Rattle.number.specs.Bytes.{AllBytes}
use Rattle.body.specs.declared.tag.Form.TheVariants.{Delta}
use Rattle.field.specs.Cells as run
use Rattle.payload.specs.Content.{Bytes, values_for}
use Rattle.payload.specs.Payload.{changes, encode}
use Rattle.payload.proofs.Faithful.{faithful}
use Rattle.item.specs.declared.sink.Counts.{Counts}
use Rattle.item.specs.Write.{writes, plus_all, zero}
use Rattle.walk.specs.Walk.{output_of, whole_out}
use Rattle.walk.proofs.Walking.{whole_fits, whole_bytes}
use Rattle.past.specs.Store.{total, cuts}
use Rattle.cursors.specs.Cursor.{D}
use Rattle.merged.specs.Place.{IsFine}
use Rattle.item.proofs.Fronts.{drop_bytes, take_bytes}
use Rattle.std.specs.Prelude.{Some}

-- ---- one key

abbrev emitted : Bytes → Option (Change Bytes) → ℕ
emitted k none = 0
emitted k (some c) = 3 + (length (drop 1 k) + length (values_for c))

update_size : (p n : Bytes) → length (values_for (update p n)) ≡ 2 + length p + length n
update_size p n = simp length-append (omega arith)

replace_size : (k p n : Bytes) (o : Ordering) → emitted k (unless_equal o (update p n)) ≤ 5 + (length (drop 1 k) + length p + length n)
replace_size k p n Less = omega (arith, update_size p n)
replace_size k p n Equal = omega arith
replace_size k p n Greater = omega (arith, update_size p n)

-- what is left of two changes takes no more than both
table_size : (k : Bytes) (c d : Change Bytes) → emitted k (table bytes c d) ≤ 6 + (length (drop 1 k) + length (values_for c) + length (values_for d))
table_size k (announce m) (announce n) = omega arith
table_size k (announce m) (withdraw q) = omega arith
table_size k (withdraw p) (withdraw q) = omega arith
table_size k (announce m) (update q n) = omega (arith, update_size q n)
table_size k (update p m) (announce n) = omega (arith, update_size p m, update_size p n)
table_size k (update p m) (update q n) = omega (arith, update_size p m, update_size q n, replace_size k p n (bytes p n))
table_size k (update p m) (withdraw q) = omega (arith, update_size p m)
table_size k (withdraw p) (announce n) = omega (arith, replace_size k p n (bytes p n))
table_size k (withdraw p) (update q n) = omega (arith, update_size q n, replace_size k p n (bytes p n))

-- ---- lists

cons_size : (x : Item Bytes (Change Bytes)) (r : D) →
    length (writes Delta (x ∷ r)) ≡ 3 + (length (drop 1 x.key) + length (values_for x.val)) + length (writes Delta r)
unfolding run.cell_bytes run.field
cons_size x r = simp length-append (omega arith)

nil_size : length (writes Delta []) ≡ 0
unfolding run.cell_bytes
nil_size = refl

emit_size : (k : Bytes) (o : Option (Change Bytes)) (r : D) → length (writes Delta (emit k o r)) ≡ emitted k o + length (writes Delta r)
emit_size k none r = omega arith
emit_size k (some c) r = cons_size (record { key = k; val = c }) r

merge_size : (a b : D) → length (writes Delta (merge bytes bytes a b)) ≤ length (writes Delta a) + length (writes Delta b)
merge_size [] [] = rw (walk_nil bytes (merge_at bytes)) (omega arith)
merge_size [] (y ∷ b) =
    rw (walk_right bytes (merge_at bytes) y b)
    (omega (arith, emit_size y.key (some y.val) (merge bytes bytes [] b), cons_size y b, merge_size [] b))
merge_size (x ∷ a) [] =
    rw (walk_left bytes (merge_at bytes) x a)
    (omega (arith, emit_size x.key (some x.val) (merge bytes bytes a []), cons_size x a, merge_size a []))
merge_size (x ∷ a) (y ∷ b) = go (bytes x.key y.key) refl (merge_size a (y ∷ b)) (merge_size a b) (merge_size (x ∷ a) b)
  where
    go : (o : Ordering) → bytes x.key y.key ≡ o →
        length (writes Delta (merge bytes bytes a (y ∷ b))) ≤ length (writes Delta a) + length (writes Delta (y ∷ b)) →
        length (writes Delta (merge bytes bytes a b)) ≤ length (writes Delta a) + length (writes Delta b) →
        length (writes Delta (merge bytes bytes (x ∷ a) b)) ≤ length (writes Delta (x ∷ a)) + length (writes Delta b) →
        length (writes Delta (merge bytes bytes (x ∷ a) (y ∷ b))) ≤ length (writes Delta (x ∷ a)) + length (writes Delta (y ∷ b))
    go Less e p q r =
        rw (walk_less bytes (merge_at bytes) x a y b e)
        (omega (arith, p, emit_size x.key (some x.val) (merge bytes bytes a (y ∷ b)), cons_size x a))
    go Equal e p q r =
        rw (walk_equal bytes (merge_at bytes) x a y b e)
        (omega (arith, q, emit_size x.key (table bytes x.val y.val) (merge bytes bytes a b), table_size x.key x.val y.val, cons_size x a, cons_size y b))
    go Greater e p q r =
        rw (walk_greater bytes (merge_at bytes) x a y b e)
        (omega (arith, r, emit_size y.key (some y.val) (merge bytes bytes (x ∷ a) b), cons_size y b))

abbrev sizes : List D → ℕ
sizes [] = 0
sizes (d ∷ ds) = length (writes Delta d) + sizes ds

fold_size : (a : D) (ds : List D) → length (writes Delta (foldl (merge bytes bytes) a ds)) ≤ length (writes Delta a) + sizes ds
fold_size a [] = omega arith
fold_size a (d ∷ ds) = omega (arith, fold_size (merge bytes bytes a d) ds, merge_size a d)

-- ---- deltas

good_size : (s : Bytes) → AllBytes s → IsFine s → length (writes Delta (changes s)) ≡ length s
unfolding encode
good_size s o f = ap length ((faithful Delta).bytes_back s o f)

cuts_size : (ks : List ℕ) (s : Bytes) → AllBytes s → All IsFine (cuts ks s) → sizes (map changes (cuts ks s)) ≤ total ks
cuts_size [] s o f = omega arith
cuts_size (k ∷ ks) s o f =
    omega (arith, good_size (take k s) (take_bytes k s o) f.0, length-take k s, cuts_size ks (drop k s) (drop_bytes k s o) f.1)

pub merged_size : (ks : List ℕ) (s : Bytes) → AllBytes s → All IsFine (cuts ks s) → length (writes Delta (merge_all bytes bytes (map changes (cuts ks s)))) ≤ total ks
merged_size ks s o f = omega (arith, fold_size [] (map changes (cuts ks s)), nil_size, cuts_size ks s o f)

-- ---- put_whole, where it surely fits

module _ (d : D) (c : Counts) (e : c ≡ plus_all Delta zero d) (o : Bytes) (most : ℕ) (s : length (writes Delta d) ≤ most) (h : most ≤ length o) where
  len_is : c.len ≤ length o
  len_is = rw e (omega (arith, s, h))

  pub sure_fits : Some c ≡ output_of Delta d (length o)
  sure_fits = whole_fits Delta d c e o len_is

  pub sure_bytes : (p : Bytes) → p ≡ sets o 0 (writes Delta d) → p ≡ whole_out Delta d o
  sure_bytes p q = whole_bytes Delta d c e o p len_is q
