-- How long a merge is: no longer than both runs together.
use Prim.Native.Nat.{ℕ, ◌+◌, ◌^◌, ◌<◌, ◌≤◌}
use mathlib.Core.Path.{◌≡◌, refl, sym, ap, ◌∙◌}
use mathlib.Core.List.{[], ◌∷◌, ◌++◌}
use mathlib.Core.Option.{Option, none, some}
use native.Mathlib.Omega.{arith}
use mir.Syntax.{w8}
use mir.Val.{Fits}
use lib.ListN.{length, get_or, drop, length-append}
use lib.Seq.{sets}
use Rattle.std.specs.declared.cmp.Ordering.{Ordering}
use Rattle.std.specs.declared.cmp.Ordering.TheVariants.{Less, Equal, Greater}
use Rattle.order.specs.Comparison.{bytes}
use Rattle.order.specs.Map.{Item}
use Rattle.order.specs.Walk.{emit}
use Rattle.order.proofs.Comparison.{strings}
use Rattle.order.proofs.Walk.{walk_nil, walk_left, walk_right, walk_less, walk_equal, walk_greater}
use Rattle.order.proofs.Never.{never}
use Rattle.change.specs.Change.{Change, announce, withdraw, update, unless_equal}
use Rattle.change.specs.Difference as change
use Rattle.change.specs.Merge.{table, merge_at, merge}
use Rattle.number.specs.Bytes.{AllBytes}
use Rattle.body.specs.declared.tag.Form.{Form}
use Rattle.field.specs.Cells.{Cell, field, cell_bytes}
use Rattle.field.specs.Run.{Run, done, more}
use Rattle.field.proofs.Fronts.{shorter}
use Rattle.field.proofs.Encode.{field_front, rest_bytes}
use Rattle.field.proofs.Run.{cells_end, cells_more}
use Rattle.payload.specs.Content.{Bytes, values_for, cell_for, entry_of}
use Rattle.payload.proofs.Back.{says_back}
use Rattle.payload.proofs.Faithful.{body_bytes}
use Rattle.item.specs.declared.reading.Reading.{Reading}
use Rattle.item.specs.declared.reading.Reading.TheVariants.{Withdrawn, Announced, Changes}
use Rattle.item.specs.declared.sink.Counts.{Counts}
use Rattle.item.specs.Reading.{form_of, item_as, read_as, Ready}
use Rattle.item.specs.Write.{cell_as, writes, plus_all, zero}
use Rattle.walk.specs.Walk.{Runs, Sizes, merged_as, output_of, whole_out}
use Rattle.item.proofs.Readings.{says_nil, says_cons}
use Rattle.walk.proofs.Walking.{whole_fits, whole_bytes}
use Rattle.std.specs.Prelude.{Some}

abbrev D : Type 0
D = change.Delta Bytes Bytes

abbrev I : Type 0
I = Item Bytes (Change Bytes)

-- ---- one item

-- the length of an item's field, whatever the form
width : Bytes → Change Bytes → ℕ
width k c = 3 + (length (drop 1 k) + length (values_for c))

module _ (form : Form) where
  cons_length : (x : I) (d : D) → length (writes form (x ∷ d)) ≡ width x.key x.val + length (writes form d)
  unfolding cell_bytes field width
  cons_length x d =
      omega (arith, length-append (drop 1 x.key ++ values_for x.val) (writes form d), length-append (drop 1 x.key) (values_for x.val))

  nil_length : length (writes form []) ≡ 0
  unfolding cell_bytes
  nil_length = refl

  -- what a key yields, if it is no longer than m
  emit_length : (k : Bytes) (o : Option (Change Bytes)) (d : D) (m : ℕ) → ((c : Change Bytes) → o ≡ some c → width k c ≤ m)
      → length (writes form (emit k o d)) ≤ m + length (writes form d)
  emit_length k none d m h = omega arith
  emit_length k (some c) d m h = omega (arith, cons_length (record { key = k; val = c }) d, h c refl)

-- a value put in place of another
replace_width : (k p n : Bytes) (m : ℕ) → width k (update p n) ≤ m → (o : Ordering) (c : Change Bytes) → unless_equal o (update p n) ≡ some c → width k c ≤ m
replace_width k p n m h Less c e = let z : update p n ≡ c = cc in rw (← z) h
replace_width k p n m h Equal c e = never cc
replace_width k p n m h Greater c e = let z : update p n ≡ c = cc in rw (← z) h

update_length : (p n : Bytes) → length (values_for (update p n)) ≡ 2 + (length p + length n)
update_length p n = omega (arith, length-append p n)

-- of two changes at one key
table_width : (k : Bytes) (x y c : Change Bytes) → table bytes x y ≡ some c → width k c ≤ width k x + width k y
unfolding width
table_width k (announce m) (announce n) c e = let z : announce n ≡ c = cc in rw (← z) (omega arith)
table_width k (announce m) (withdraw q) c e = never cc
table_width k (announce m) (update q n) c e = let z : announce n ≡ c = cc in rw (← z) (omega (arith, update_length q n))
table_width k (withdraw p) (announce n) c e = replace_width k p n _ (omega (arith, update_length p n)) (bytes p n) c e
table_width k (withdraw p) (withdraw q) c e = let z : withdraw p ≡ c = cc in rw (← z) (omega arith)
table_width k (withdraw p) (update q n) c e = replace_width k p n _ (omega (arith, update_length p n, update_length q n)) (bytes p n) c e
table_width k (update p m) (announce n) c e = let z : update p n ≡ c = cc in rw (← z) (omega (arith, update_length p n, update_length p m))
table_width k (update p m) (withdraw q) c e = let z : withdraw p ≡ c = cc in rw (← z) (omega (arith, update_length p m))
table_width k (update p m) (update q n) c e = replace_width k p n _ (omega (arith, update_length p n, update_length p m, update_length q n)) (bytes p n) c e

-- ---- all of them

module _ (form : Form) where
  abbrev Short : D → D → Type 0
  Short d e = length (writes form (merge bytes bytes d e)) ≤ length (writes form d) + length (writes form e)

  merge_length : (d e : D) → Short d e
  merge_length [] [] = rw (walk_nil bytes (merge_at bytes)) (omega arith)
  merge_length [] (y ∷ e) = rw (walk_right bytes (merge_at bytes) y e)
      (omega (arith, merge_length [] e, cons_length form y (merge bytes bytes [] e), cons_length form y e))
  merge_length (x ∷ d) [] = rw (walk_left bytes (merge_at bytes) x d)
      (omega (arith, merge_length d [], cons_length form x (merge bytes bytes d []), cons_length form x d))
  merge_length (x ∷ d) (y ∷ e) = go (bytes x.key y.key) refl (merge_length d (y ∷ e)) (merge_length d e) (merge_length (x ∷ d) e)
    where
      go : (o : Ordering) → bytes x.key y.key ≡ o → Short d (y ∷ e) → Short d e → Short (x ∷ d) e → Short (x ∷ d) (y ∷ e)
      go Less q i j k = rw (walk_less bytes (merge_at bytes) x d y e q)
          (omega (arith, i, cons_length form x (merge bytes bytes d (y ∷ e)), cons_length form x d))
      go Equal q i j k =
          let s : x.key ≡ y.key = strings.same x.key y.key q in
          let w : width x.key y.val ≡ width y.key y.val = ap (λ (l : Bytes). width l y.val) s in
          rw (walk_equal bytes (merge_at bytes) x d y e q)
          (omega (
            arith,
            j,
            w,
            cons_length form x d,
            cons_length form y e,
            emit_length form x.key (table bytes x.val y.val) (merge bytes bytes d e) (width x.key x.val + width x.key y.val) (table_width x.key x.val y.val),
          ))
      go Greater q i j k = rw (walk_greater bytes (merge_at bytes) x d y e q)
          (omega (arith, k, cons_length form y (merge bytes bytes (x ∷ d) e), cons_length form y e))

-- ---- a run of bytes has the length of what it says

same_body : (reading : Reading) (form : Form) (c : Cell) → (cell_as form (item_as reading c)).body ≡ (cell_for (form_of reading) (entry_of (form_of reading) c)).body
same_body Withdrawn form c = refl
same_body Announced form c = refl
same_body Changes form c = refl

run_length : (reading : Reading) (form : Form) {k s : Bytes} → Run (form_of reading) k s → AllBytes s → length (writes form (read_as reading s)) ≡ length s
unfolding width
run_length reading form done o = rw (says_nil [] reading cells_end) (nil_length form)
run_length reading form (more {s = s} tag b rest f g z l r) o =
    let w : s ≡ field tag b ++ rest = field_front s tag b rest o f in
    let c : Cell = record { tag = tag; body = b } in
    let q : (cell_as form (item_as reading c)).body ≡ b = same_body reading form c ∙ ap (λ (x : Cell). x.body) (says_back (form_of reading) tag b (body_bytes s tag b rest o w) g) in
    let v : length (drop 1 (item_as reading c).key) + length (values_for (item_as reading c).val) ≡ length b
    = sym (length-append (drop 1 (item_as reading c).key) (values_for (item_as reading c).val)) ∙ ap length q in
    rw (says_cons s c rest reading (cells_more s tag b rest f))
    (omega (arith, v, cons_length form (item_as reading c) (read_as reading rest), run_length reading form r (rest_bytes s tag b rest o w), shorter s tag b rest f))

-- ---- size_of

pub sized : (reading : Reading) (s : Bytes) → Ready reading s 0 → ((n : ℕ) → Fits w8 (get_or s n 0)) → Sizes reading s (length s)
sized reading s r o = record { is = refl; written = λ form. run_length reading form r.good.run (λ n. (o n).fits) }

pub ruleset sizing = (sized)

-- ---- put_whole, where there is surely room

module _ (form : Form) (ra : Reading) (a : Bytes) (rb : Reading) (b : Bytes) (m n : ℕ) (x : Sizes ra a m) (y : Sizes rb b n) where
  pub sum_fits : Runs ra a rb b → m + n < 2 ^ 64
  sum_fits r = omega (arith, x.is, y.is, r.short_a, r.short_b)

  module _ (c : Counts) (e : c ≡ plus_all form zero (merged_as ra a rb b)) (out : Bytes) (h : m + n ≤ length out) where
    fits_in_lem : c.len ≤ length out
    fits_in_lem = rw e (omega (arith, x.written form, y.written form, merge_length form (read_as ra a) (read_as rb b)))

    pub sure_fits : Some c ≡ output_of form (merged_as ra a rb b) (length out)
    sure_fits = whole_fits form (merged_as ra a rb b) c e out fits_in_lem

    pub sure_bytes : (p : Bytes) → p ≡ sets out 0 (writes form (merged_as ra a rb b)) → p ≡ whole_out form (merged_as ra a rb b) out
    sure_bytes p q = whole_bytes form (merged_as ra a rb b) c e out p fits_in_lem q

pub ruleset surely = (sum_fits, sure_fits, sure_bytes)
