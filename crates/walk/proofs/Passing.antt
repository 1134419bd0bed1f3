-- Laws of what the walk passes without a turn.
use Prim.Native.Nat.{ℕ, ◌+◌, ◌-◌, ◌^◌, ◌<◌, ◌≤◌}
use mathlib.Core.Path.{◌≡◌, refl, sym, ap, ap₂, ◌∙◌}
use mathlib.Core.List.{List, [], ◌∷◌, ◌++◌, map}
use mathlib.Core.Bool.{true}
use native.Mathlib.Omega.{arith}
use mir.Syntax.{w8}
use mir.Val.{Fits}
use lib.ListN.{length, get_or, take, drop, length-append, length-drop}
use lib.Seq.{sets, take_at}
use Rattle.order.specs.Comparison.{bytes}
use Rattle.order.specs.Map.{Item, All, Below}
use Rattle.change.specs.Change.{Change}
use Rattle.change.specs.Difference as change
use Rattle.change.specs.Merge.{merge_at, merge}
use Rattle.change.proofs.Whole.{as_new, diff_new}
use Rattle.number.specs.Bytes.{AllBytes}
use Rattle.body.specs.declared.tag.Form.{Form}
use Rattle.body.specs.declared.tag.Form.TheVariants.{Snapshot, Delta}
use Rattle.body.specs.Tag.{good_body}
use Rattle.body.proofs.Digits.{snapshot_kind}
use Rattle.field.specs.Key.{key_of}
use Rattle.field.specs.Cells.{Cell, field, cell_bytes}
use Rattle.field.specs.Run.{Run, done, more}
use Rattle.field.proofs.Encode.{field_front, rest_bytes}
use Rattle.field.proofs.Run.{cells_end, cells_more}
use Rattle.payload.specs.Content.{Bytes}
use Rattle.payload.specs.Payload.{items, changes}
use Rattle.payload.specs.Count.{announces, withdraws, sum_of}
use Rattle.payload.proofs.Back.{says_back}
use Rattle.payload.proofs.Faithful.{body_bytes}
use Rattle.item.specs.declared.sink.Counts.{Counts}
use Rattle.item.specs.declared.reading.Reading.{Reading}
use Rattle.item.specs.declared.reading.Reading.TheVariants.{Announced, Changes}
use Rattle.item.specs.Front.{front_key}
use Rattle.item.specs.Place.{part_in, Lies}
use Rattle.item.specs.Reading.{item_as, read_as, Ready}
use Rattle.item.specs.Write.{cell_as, writes}
use Rattle.item.proofs.Fronts.{front_less, drop_bytes}
use Rattle.item.proofs.Putting.{counts_path}
use Rattle.item.proofs.Readings.{says_nil, says_cons}
use Rattle.walk.specs.declared.pass.Stand.{Stand}
use Rattle.turn.specs.Seek.{Bounds, Seeks}
use Rattle.turn.specs.Skip.{Skips}
use Rattle.turn.specs.Left.{left_of}
use Rattle.turn.proofs.Stretching.{writes_append}
use Rattle.walk.specs.Walk.{Stands, Wrote}
use Rattle.walk.proofs.Walking.{plus_nil, writes_nil, walk_left_first}

abbrev D : Type 0
D = change.Delta Bytes Bytes

-- ---- the bytes of a good snapshot are what it says, written

cell_path : {c d : Cell} → c.tag ≡ d.tag → c.body ≡ d.body → c ≡ d
cell_path p q = λ i. record { tag = p i; body = q i }

-- a field of a snapshot is written as it was read
same_cell : (tag : ℕ) (b : Bytes) → AllBytes b → good_body Snapshot tag b ≡ true → cell_as Snapshot (item_as Announced (record { tag = tag; body = b })) ≡ record { tag = tag; body = b }
unfolding key_of
same_cell tag b o g = cell_path (snapshot_kind tag b g) (ap (λ (x : Cell). x.body) (says_back Snapshot tag b o g))

run_bytes : {k s : Bytes} → Run Snapshot k s → AllBytes s → writes Snapshot (read_as Announced s) ≡ s
unfolding cell_bytes
run_bytes done o = rw (says_nil [] Announced cells_end)
run_bytes (more {s = s} tag b rest f g z l r) o =
    let w : s ≡ field tag b ++ rest = field_front s tag b rest o f in
    let c : Cell = record { tag = tag; body = b } in
    let q : cell_as Snapshot (item_as Announced c) ≡ c = same_cell tag b (body_bytes s tag b rest o w) g in
    ap (writes Snapshot) (says_cons s c rest Announced (cells_more s tag b rest f))
    ∙ ap₂ (λ (x : Cell) (y : Bytes). field x.tag x.body ++ y) q (run_bytes r (rest_bytes s tag b rest o w))
    ∙ sym w

-- ---- put_below

map_append : {A B : Type 0} (f : A → B) (x y : List A) → map f (x ++ y) ≡ map f x ++ map f y
map_append f [] y = refl
map_append f (z ∷ x) y = ap (λ (l : List _). f z ∷ l) (map_append f x y)

-- all announced, none withdrawn
all_new_lem : (e : change.Snapshot Bytes Bytes) → (sum_of announces (map as_new e) ≡ length e) × (sum_of withdraws (map as_new e) ≡ 0)
all_new_lem [] = (refl, refl)
all_new_lem (x ∷ e) = let z = all_new_lem e in (omega (arith, z.0), omega (arith, z.1))

-- items with fronts below the delta's next one go first
merge_low : (bound : ℕ) (e : change.Snapshot Bytes Bytes) → All (λ (x : Item Bytes Bytes). front_key x.key < bound) e → (A B : D)
    → ((y : Item Bytes (Change Bytes)) (rest : D) → B ≡ y ∷ rest → (bound ≤ front_key y.key) × AllBytes y.key)
    → merge bytes bytes (map as_new e ++ A) B ≡ map as_new e ++ merge bytes bytes A B
merge_low bound [] h A B g = refl
merge_low bound (x ∷ e) h A B g =
    walk_left_first (merge_at bytes) (as_new x) (map as_new e ++ A) B (low B refl)
    ∙ ap (λ (l : D). as_new x ∷ l) (merge_low bound e h.1 A B g)
  where
    low : (C : D) → B ≡ C → Below bytes x.key C
    low [] q = tt
    low (y ∷ rest) q = let z = g y rest q in front_less x.key y.key z.1 (omega (arith, h.0, z.0))

module _ (a : Bytes) (i : ℕ) (b : Bytes) (j : ℕ) (c : Counts) (q : Stands Announced a i Changes b j c) (bound p n : ℕ) (k : Bounds b j bound) (s : Seeks a i bound p n) where
  pub below_lies : Lies a (record { from = i; to = p })
  below_lies = record { ordered = s.on; within = s.ready.within }

  new_is : (l : Bytes) → read_as Announced l ≡ map as_new (items l)
  new_is l = diff_new bytes bytes (items l)

  split : read_as Announced (drop i a) ≡ map as_new s.passed ++ read_as Announced (drop p a)
  split =
      new_is (drop i a) ∙ ap (map as_new) s.split ∙ map_append as_new s.passed (items (drop p a))
      ∙ ap (λ (l : D). map as_new s.passed ++ l) (sym (new_is (drop p a)))

  left : left_of Announced a i Changes b j ≡ map as_new s.passed ++ left_of Announced a p Changes b j
  left =
      ap (λ (l : D). merge bytes bytes l (changes (drop j b))) split
      ∙ merge_low bound s.passed s.low (read_as Announced (drop p a)) (changes (drop j b)) k.above

  module _ (o : (x : ℕ) → Fits w8 (get_or a x 0)) where
    whole : writes Snapshot (map as_new s.passed) ++ drop p a ≡ drop i a
    whole =
        let x = run_bytes q.ready_a.good.run (drop_bytes i a (λ z. (o z).fits)) in
        let y = run_bytes s.ready.good.run (drop_bytes p a (λ z. (o z).fits)) in
        ap (λ (l : Bytes). writes Snapshot (map as_new s.passed) ++ l) (sym y)
        ∙ sym (writes_append Snapshot (map as_new s.passed) (read_as Announced (drop p a)))
        ∙ ap (writes Snapshot) (sym split) ∙ x

    size : length (writes Snapshot (map as_new s.passed)) ≡ p - i
    size =
        let z : length (writes Snapshot (map as_new s.passed)) + length (drop p a) ≡ length (drop i a) = sym (length-append (writes Snapshot (map as_new s.passed)) (drop p a)) ∙ ap length whole in
        let w = s.ready.within in
        omega (arith, z, length-drop p a, length-drop i a, s.on, q.ready_a.within)

    bytes_are : writes Snapshot (map as_new s.passed) ≡ part_in a (record { from = i; to = p })
    bytes_are = sym (ap (take (p - i)) (sym whole) ∙ take_at (writes Snapshot (map as_new s.passed)) (drop p a) (p - i) size)

    pub below_wrote : (u v : Bytes) → v ≡ sets u c.len (part_in a (record { from = i; to = p }))
        → Wrote Snapshot Announced a i Changes b j c u v p j (record { len = c.len + (p - i); announced = c.announced + n; withdrawn = c.withdrawn })
    below_wrote u v e =
        let z = all_new_lem s.passed in
        record {
          written = map as_new s.passed;
          is = left;
          counts = counts_path (omega (arith, size)) (omega (arith, z.0, s.number)) (omega (arith, z.1));
          laid = e ∙ ap (sets u c.len) (sym bytes_are);
          short = omega (arith, size, s.on);
          announced = omega (arith, z.0, s.number, s.few_on);
          withdrawn = omega (arith, z.1, s.on);
          ready_a = s.ready;
          ready_b = q.ready_b;
          on_a = s.on;
          on_b = omega arith;
        }

  pub below_len : c.len + (p - i) < 2 ^ 64
  below_len = omega (arith, q.len, q.short_a, s.ready.within, s.on)

  pub below_count : c.announced + n < 2 ^ 64
  below_count = omega (arith, q.announced, q.short_a, s.ready.within, s.few_on)

module _ (ra : Reading) (a : Bytes) (i : ℕ) (rb : Reading) (b : Bytes) (j : ℕ) (c : Counts) (q : Stands ra a i rb b j c) where
  pub stands_left : Ready ra a i
  stands_left = q.ready_a

  pub stands_right : Ready rb b j
  stands_right = q.ready_b

pub ruleset below = (stands_left, stands_right, below_lies, below_wrote, below_len, below_count)

-- ---- put_pass

module _ (form : Form) (ra : Reading) (a : Bytes) (i : ℕ) (rb : Reading) (b : Bytes) (j : ℕ) (c : Counts) (u : Bytes) where
  pub pass_skips : (k : ℕ) → Skips ra a i rb b j k → Wrote form ra a i rb b j c u u (i + k) (j + k) c
  unfolding cell_bytes
  pass_skips k s = record {
    written = [];
    is = s.is;
    counts = plus_nil form c;
    laid = writes_nil form u c.len;
    short = omega arith;
    announced = omega arith;
    withdrawn = omega arith;
    ready_a = s.ready_a;
    ready_b = s.ready_b;
    on_a = omega arith;
    on_b = omega arith;
  }

  module _ (ef : form ≡ Snapshot) (ea : ra ≡ Announced) (eb : rb ≡ Changes) where
    pub pass_stands : Stands ra a i rb b j c → Stands Announced a i Changes b j c
    pass_stands s = rw (ea, eb) at s

    pub pass_below : (v : Bytes) (s : Stand) → Wrote Snapshot Announced a i Changes b j c u v s.left s.right s.counts → Wrote form ra a i rb b j c u v s.left s.right s.counts
    pass_below v s w = rw (ef, ea, eb) w

  module _ (ef : form ≡ Delta) (ea : ra ≡ Changes) (eb : rb ≡ Changes) where
    pub origins_stands : Stands ra a i rb b j c → Stands Changes a i Changes b j c
    origins_stands s = rw (ea, eb) at s

    pub pass_origins : (v : Bytes) (s : Stand) → Wrote Delta Changes a i Changes b j c u v s.left s.right s.counts → Wrote form ra a i rb b j c u v s.left s.right s.counts
    pass_origins v s w = rw (ef, ea, eb) w

pub ruleset passing = (origins_stands, pass_origins, stands_left, stands_right, pass_skips, pass_stands, pass_below)
