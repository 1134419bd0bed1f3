-- Laws of the walk: what was written and counted so far, with what is left, is the whole.
use Prim.Native.Nat.{ℕ, ◌+◌, ◌-◌, ◌*◌, ◌<◌, ◌≤◌}
use mathlib.Core.Path.{◌≡◌, refl, sym, ap, ap₂, ◌∙◌}
use mathlib.Core.List.{List, [], ◌∷◌, ◌++◌, append-nil, append_assoc}
use mathlib.Core.Option.{Option, none, some}
use native.Mathlib.Omega.{arith}
use native.Mathlib.Nat.{zero-add}
use borrow.Author.Tests.{le-leb, lt-leb}
use lib.ListN.{length, drop, length-append}
use lib.Seq.{sets, length-sets, sets-eq}
use Rattle.std.specs.declared.cmp.Ordering.TheVariants.{Equal}
use Rattle.order.specs.Comparison.{bytes, flip}
use Rattle.order.specs.Map.{Item, Below}
use Rattle.order.specs.Walk.{emit, walk}
use Rattle.order.proofs.Comparison.{strings}
use Rattle.order.proofs.Walk.{walk_left, walk_right, walk_less, walk_equal, walk_greater}
use Rattle.change.specs.Change.{Change, announce, withdraw, update}
use Rattle.change.specs.Difference as change
use Rattle.change.specs.Merge.{table, merge_at, merge}
use Rattle.change.proofs.Whole.{merge_later, merge_earlier}
use Rattle.body.specs.declared.tag.Form.{Form}
use Rattle.body.specs.declared.tag.Form.TheVariants.{Delta}
use Rattle.field.specs.declared.key.Key.{Key}
use Rattle.field.specs.Cells.{cell_bytes}
use Rattle.field.specs.Places.{key_in}
use Rattle.payload.specs.Content.{Bytes}
use Rattle.payload.specs.Limit.{limit}
use Rattle.payload.specs.Count.{announces, withdraws, sum_of}
use Rattle.item.specs.declared.place.Act.{Act}
use Rattle.item.specs.declared.place.Entry.{Entry}
use Rattle.item.specs.declared.sink.Counts.{Counts}
use Rattle.item.specs.declared.reading.Reading.{Reading}
use Rattle.turn.specs.declared.turn.Side.{Side}
use Rattle.turn.specs.declared.turn.Side.TheVariants as side
use Rattle.turn.specs.declared.turn.Turn.{Turn}
use Rattle.turn.specs.declared.turn.Turn.TheVariants.{Over, Left, Right, Both}
use Rattle.item.specs.Place.{change_in, item_in, ActFits, KeyIn, Holds}
use Rattle.item.specs.Reading.{read_as, Ready, EntryFits, Reads}
use Rattle.std.specs.declared.ops.ControlFlow.{ControlFlow}
use Rattle.std.specs.declared.ops.ControlFlow.TheVariants as flow
use Rattle.turn.specs.Turn.{TurnIs, TurnMeans}
use Rattle.item.specs.Write.{field_as, writes, plus_item, plus_all, zero, Countable}
use Rattle.walk.specs.declared.pass.Stand.{Stand}
use Rattle.walk.specs.Walk.{EntryIn, both_of, Passed, Wrote, Stands, StepMeans, StepIs, Sized, Runs, output_of, whole_out}
use Rattle.turn.specs.Left.{left_of}
use Rattle.item.proofs.Sinking.{sets_append}
use Rattle.item.proofs.Tabling.{table_held}
use Rattle.item.proofs.Putting.{counts_path, field_small}
use Rattle.turn.proofs.Stretching.{writes_append, sum_append}
use Rattle.std.specs.Prelude as opt
use Rattle.std.specs.Prelude.{None, Some}

abbrev D : Type 0
D = change.Delta Bytes Bytes

-- ---- counts and bytes of a list

pub plus_nil : (form : Form) (c : Counts) → c ≡ plus_all form c []
unfolding cell_bytes
plus_nil form c = counts_path (omega arith) (omega arith) (omega arith)

pub writes_nil : (form : Form) (o : Bytes) (i : ℕ) → o ≡ sets o i (writes form [])
unfolding cell_bytes
writes_nil form o i = refl

pub plus_append : (form : Form) (c : Counts) (e f : D) → plus_all form c (e ++ f) ≡ plus_all form (plus_all form c e) f
plus_append form c e f =
    counts_path (omega (arith, ap length (writes_append form e f), length-append (writes form e) (writes form f)))
    (omega (arith, sum_append announces e f)) (omega (arith, sum_append withdraws e f))

pub sets_writes : (form : Form) (o : Bytes) (i : ℕ) (e f : D) → sets o i (writes form (e ++ f)) ≡ sets (sets o i (writes form e)) (i + length (writes form e)) (writes form f)
sets_writes form o i e f = ap (sets o i) (writes_append form e f) ∙ sets_append (writes form e) (writes form f) o i

-- one item alone
module _ (form : Form) (c : Counts) (x : Item Bytes (Change Bytes)) where
  pub plus_one : plus_item form c x ≡ plus_all form c (x ∷ [])
  unfolding cell_bytes
  plus_one = counts_path (omega (arith, length-append (field_as form x) [])) (omega arith) (omega arith)

  pub writes_one : field_as form x ≡ writes form (x ∷ [])
  unfolding cell_bytes
  writes_one = sym (append-nil (field_as form x))

-- ---- put_both

module _ (a b : Bytes) (x y : Entry) (h : opt.Option Act) (t : Holds a b (table bytes (change_in a a x.act) (change_in b b y.act)) h) where
  pub both_fits : (act : Act) → h ≡ Some act → ActFits a b act
  both_fits act e = rw e at t.fits

  nothing_left : h ≡ None → both_of a x b y ≡ []
  nothing_left e = ap (λ (o : Option (Change Bytes)). emit (key_in a x.key) o []) (sym (rw e at t.is))

  one_left : (act : Act) → h ≡ Some act → both_of a x b y ≡ item_in a b x.key act ∷ []
  one_left act e = ap (λ (o : Option (Change Bytes)). emit (key_in a x.key) o []) (sym (rw e at t.is))

  module _ (form : Form) (c : Counts) where
    pub nothing_counts : h ≡ None → c ≡ plus_all form c (both_of a x b y)
    nothing_counts e = plus_nil form c ∙ ap (plus_all form c) (sym (nothing_left e))

    pub nothing_bytes : (o : Bytes) → h ≡ None → o ≡ sets o c.len (writes form (both_of a x b y))
    nothing_bytes o e = writes_nil form o c.len ∙ ap (λ (d : D). sets o c.len (writes form d)) (sym (nothing_left e))

    pub one_counts : (act : Act) (r : Counts) → h ≡ Some act → r ≡ plus_item form c (item_in a b x.key act) → r ≡ plus_all form c (both_of a x b y)
    one_counts act r e q = q ∙ plus_one form c (item_in a b x.key act) ∙ ap (plus_all form c) (sym (one_left act e))

    pub one_bytes : (act : Act) (o p : Bytes) → h ≡ Some act → p ≡ sets o c.len (field_as form (item_in a b x.key act)) →
        p ≡ sets o c.len (writes form (both_of a x b y))
    one_bytes act o p e q = q ∙ ap (sets o c.len) (writes_one form c (item_in a b x.key act)) ∙ ap (λ (d : D). sets o c.len (writes form d)) (sym (one_left act e))

pub ruleset both_sides = (both_fits, nothing_counts, nothing_bytes, one_counts, one_bytes)

-- ---- what is left of a walk, behind counts and bytes

-- d from c and o on gives what d₀ gives from c₀ and o₀ on
pub record Left-over (form : Form) (c : Counts) (o : Bytes) (d : D) (c₀ : Counts) (o₀ : Bytes) (d₀ : D) : Type 0 where
  pub counts : plus_all form c d ≡ plus_all form c₀ d₀
  pub laid : sets o c.len (writes form d) ≡ sets o₀ c₀.len (writes form d₀)

module _ (form : Form) (c : Counts) (o : Bytes) (d : D) (c₀ : Counts) (o₀ : Bytes) (d₀ : D) (l : Left-over form c o d c₀ o₀ d₀) where
  -- at its end
  pub none_counts : d ≡ [] → c ≡ plus_all form c₀ d₀
  none_counts e = plus_nil form c ∙ ap (plus_all form c) (sym e) ∙ l.counts

  pub none_bytes : d ≡ [] → o ≡ sets o₀ c₀.len (writes form d₀)
  none_bytes e = writes_nil form o c.len ∙ ap (λ (x : D). sets o c.len (writes form x)) (sym e) ∙ l.laid

  -- behind some items that were written
  pub left_some : (e f : D) → d ≡ e ++ f → (r : Counts) (p : Bytes) → r ≡ plus_all form c e → p ≡ sets o c.len (writes form e) →
      Left-over form r p f c₀ o₀ d₀
  left_some e f q r p er ep = record {
    counts = rw er (sym (plus_append form c e f) ∙ ap (plus_all form c) (sym q) ∙ l.counts);
    laid = rw (er, ep) (sym (sets_writes form o c.len e f) ∙ ap (λ (x : D). sets o c.len (writes form x)) (sym q) ∙ l.laid);
  }

  -- behind one
  pub left_one : (x : Item Bytes (Change Bytes)) (f : D) → d ≡ x ∷ f → (r : Counts) (p : Bytes) → r ≡ plus_item form c x →
      p ≡ sets o c.len (field_as form x) → Left-over form r p f c₀ o₀ d₀
  left_one x f q r p er ep =
      left_some (x ∷ []) f q r p (er ∙ plus_one form c x) (ep ∙ ap (sets o c.len) (writes_one form c x))

-- ---- how far the counts can be

-- one item counts for at most so much
module _ (form : Form) (a b : Bytes) (key : Key) (act : Act) (k : KeyIn a key) (f : ActFits a b act) where
  pub one_small : length (field_as form (item_in a b key act)) ≤ 40_000
  one_small = omega (arith, field_small a b key act k f form)

pub announces_one : (c : Change Bytes) → announces c ≤ 1
announces_one (announce n) = omega arith
announces_one (withdraw p) = omega arith
announces_one (update p n) = omega arith

pub withdraws_one : (c : Change Bytes) → withdraws c ≤ 1
withdraws_one (announce n) = omega arith
withdraws_one (withdraw p) = omega arith
withdraws_one (update p n) = omega arith

-- what is left of two items: at most one item
record BothSmall (form : Form) (a : Bytes) (x : Entry) (b : Bytes) (y : Entry) : Type 0 where
  len : length (writes form (both_of a x b y)) ≤ 40_000
  announced : sum_of announces (both_of a x b y) ≤ 1
  withdrawn : sum_of withdraws (both_of a x b y) ≤ 1

both_small : (form : Form) (a : Bytes) (x : Entry) (b : Bytes) (y : Entry) → KeyIn a x.key → ActFits a a x.act → ActFits b b y.act → BothSmall form a x b y
unfolding cell_bytes
both_small form a x b y k f g = let t = table_held a x.act b y.act f g in go t.held t.holds
  where
    go : (h : opt.Option Act) → Holds a b (table bytes (change_in a a x.act) (change_in b b y.act)) h → BothSmall form a x b y
    go None t =
        let e = nothing_left a b x y None t refl in
        record { len = rw e (omega arith); announced = rw e (omega arith); withdrawn = rw e (omega arith) }
    go (Some act) t =
        let e = one_left a b x y (Some act) t act refl in
        let n = one_small form a b x.key act k t.fits in
        let w = writes_one form zero (item_in a b x.key act) in
        record {
          len = rw (e, ← w) n;
          announced = rw e (omega (arith, announces_one (change_in a b act)));
          withdrawn = rw e (omega (arith, withdraws_one (change_in a b act)));
        }

-- ---- put_rest

pub record Resting (form : Form) (reading : Reading) (s : Bytes) (from : ℕ) (o₀ : Bytes) (c₀ : Counts) (at : ℕ) (c : Counts) (o : Bytes) : Type 0 where
  pub ready : Ready reading s at
  pub passed : Passed c at (length s)
  pub long : length o ≡ length o₀
  pub left : Left-over form c o (read_as reading (drop at s)) c₀ o₀ (read_as reading (drop from s))

pub rest_start : (form : Form) (reading : Reading) (s : Bytes) (from : ℕ) (o : Bytes) (c : Counts) → Ready reading s from → Passed c from (length s) →
    Resting form reading s from o c from c o
rest_start form reading s from o c r p = record { ready = r; passed = p; long = refl; left = record { counts = refl; laid = refl } }

module _ (form : Form) (reading : Reading) (s : Bytes) (from : ℕ) (o₀ : Bytes) (c₀ : Counts) (at : ℕ) (c : Counts) (o : Bytes)
    (h : Resting form reading s from o₀ c₀ at c o) where
  pub rest_ready : Ready reading s at
  rest_ready = h.ready

  module _ (r : opt.Option Entry) (e : Reads reading s at r) where
    pub rest_counts : r ≡ None → c ≡ plus_all form c₀ (read_as reading (drop from s))
    rest_counts q = none_counts form c o _ c₀ o₀ _ h.left (rw q at e.is)

    pub rest_bytes : r ≡ None → o ≡ sets o₀ c₀.len (writes form (read_as reading (drop from s)))
    rest_bytes q = none_bytes form c o _ c₀ o₀ _ h.left (rw q at e.is)

    module _ (x : Entry) (q : r ≡ Some x) where
      fits : EntryFits reading s at x
      fits = rw q at e.fits

      pub rest_in : EntryIn s x
      rest_in = record { key = fits.key; act = fits.act }

      pub rest_less : length s - x.next < length s - at
      rest_less = let f = fits in omega (arith, f.ahead, f.ready.within)

      pub rest_again : (c' : Counts) (o' : Bytes) → c' ≡ plus_item form c (item_in s s x.key x.act) →
          o' ≡ sets o c.len (field_as form (item_in s s x.key x.act)) → Resting form reading s from o₀ c₀ x.next c' o'
      rest_again c' o' ec eo =
          let f = fits in
          let n = one_small form s s x.key x.act f.key f.act in
          record {
            ready = f.ready;
            passed = rw ec (record {
              short = h.passed.short;
              len = omega (arith, h.passed.len, f.ahead);
              announced = omega (arith, h.passed.announced, f.ahead, announces_one (change_in s s x.act));
              withdrawn = omega (arith, h.passed.withdrawn, f.ahead, withdraws_one (change_in s s x.act));
            });
            long = ap length eo ∙ length-sets o c.len (field_as form (item_in s s x.key x.act)) ∙ h.long;
            left = left_one form c o _ c₀ o₀ _ h.left (item_in s s x.key x.act) (read_as reading (drop x.next s)) (rw q at e.is) c' o' ec eo;
          }

pub rest_room : (form : Form) (reading : Reading) (s : Bytes) (from : ℕ) (o₀ : Bytes) (c₀ : Counts) (at : ℕ) (c : Counts) (o : Bytes) →
    Resting form reading s from o₀ c₀ at c o → Countable c
rest_room form reading s from o₀ c₀ at c o h =
    let w = h.ready.within in
    let p = h.passed in
    record { len = omega (arith, p.len, p.short); announced = omega (arith, p.announced, p.short); withdrawn = omega (arith, p.withdrawn, p.short) }

pub ruleset resting = (rest_start, rest_ready, rest_counts, rest_bytes, rest_in, rest_less, rest_again, rest_room)

-- ---- one turn

-- the first item of a walk, where the other side's first key is higher
module _ {A B C : Type 0} (f : Option A → Option B → Option C) where
  pub walk_left_first : (x : Item Bytes A) (a : List (Item Bytes A)) (b : List (Item Bytes B)) → Below bytes x.key b →
      walk bytes f (x ∷ a) b ≡ emit x.key (f (some x.val) none) (walk bytes f a b)
  walk_left_first x a [] h = walk_left bytes f x a
  walk_left_first x a (y ∷ b) h = walk_less bytes f x a y b h

  pub walk_right_first : (a : List (Item Bytes A)) (y : Item Bytes B) (b : List (Item Bytes B)) → Below bytes y.key a →
      walk bytes f a (y ∷ b) ≡ emit y.key (f none (some y.val)) (walk bytes f a b)
  walk_right_first [] y b h = walk_right bytes f y b
  walk_right_first (x ∷ a) y b h = walk_greater bytes f x a y b (strings.turn y.key x.key ∙ ap flip h)

-- a turn that wrote one item
one_wrote : (form : Form) (ra : Reading) (a : Bytes) (i : ℕ) (rb : Reading) (b : Bytes) (j : ℕ) (c : Counts) (o : Bytes) (c' : Counts) (o' : Bytes)
    (s : Bytes) (key : Key) (act : Act) → KeyIn s key → ActFits s s act → (p q : ℕ) →
    left_of ra a i rb b j ≡ item_in s s key act ∷ left_of ra a p rb b q → c' ≡ plus_item form c (item_in s s key act) →
    o' ≡ sets o c.len (field_as form (item_in s s key act)) → Ready ra a p → Ready rb b q → i ≤ p → j ≤ q → i + j < p + q →
    Wrote form ra a i rb b j c o o' p q c' × (i + j < p + q)
one_wrote form ra a i rb b j c o c' o' s key act k f p q e ec eo x y u v h =
    let n = one_small form s s key act k f in
    let w = writes_one form c (item_in s s key act) in (
      record {
        written = item_in s s key act ∷ [];
        is = e;
        counts = ec ∙ plus_one form c (item_in s s key act);
        laid = eo ∙ ap (sets o c.len) w;
        short = rw (← w) (omega (arith, n));
        announced = omega (arith, announces_one (change_in s s act));
        withdrawn = omega (arith, withdraws_one (change_in s s act));
        ready_a = x;
        ready_b = y;
        on_a = u;
        on_b = v;
      },
      h,
    )

emit_append : (k : Bytes) (o : Option (Change Bytes)) (d : D) → emit k o d ≡ emit k o [] ++ d
emit_append k none d = refl
emit_append k (some c) d = refl

module _ (form : Form) (ra : Reading) (a : Bytes) (i : ℕ) (rb : Reading) (b : Bytes) (j : ℕ) (c : Counts) (o : Bytes) (t : Turn) (h : TurnIs ra a i rb b j t) where
  -- one side has run out
  pub step_over : (s : Side) → t ≡ Over s → StepIs form ra a i rb b j c o o (flow.Break s)
  step_over s q = record { is = go s (rw q at h.is) }
    where
      go : (s : Side) → TurnMeans ra a i rb b j (Over s) → StepMeans form ra a i rb b j c o o (flow.Break s)
      go side.Left z = (refl, z)
      go side.Right z = (refl, z)

  module _ (m : Ready ra a i) (n : Ready rb b j) where
    -- an item of the left side alone
    module _ (x : Entry) (q : t ≡ Left x) where
      read_left : Reads ra a i (Some x)
      read_left = (rw q at h.is).0

      left_is : left_of ra a i rb b j ≡ item_in a a x.key x.act ∷ left_of ra a x.next rb b j
      left_is =
          ap (λ (l : D). merge bytes bytes l (read_as rb (drop j b))) read_left.is
          ∙ walk_left_first (merge_at bytes) (item_in a a x.key x.act) (read_as ra (drop x.next a)) (read_as rb (drop j b)) (rw q at h.is).1

      pub step_left : (c' : Counts) (o' : Bytes) → c' ≡ plus_item form c (item_in a a x.key x.act) →
          o' ≡ sets o c.len (field_as form (item_in a a x.key x.act)) → StepIs form ra a i rb b j c o o' (flow.Continue (record { left = x.next; right = j; counts = c' }))
      step_left c' o' ec eo =
          let f = read_left.fits in
          record { is = one_wrote form ra a i rb b j c o c' o' a x.key x.act f.key f.act x.next j left_is ec eo f.ready n (omega (arith, f.ahead)) (omega arith) (omega (arith, f.ahead)) }

    -- an item of the right side alone
    module _ (y : Entry) (q : t ≡ Right y) where
      read_right : Reads rb b j (Some y)
      read_right = (rw q at h.is).0

      right_is : left_of ra a i rb b j ≡ item_in b b y.key y.act ∷ left_of ra a i rb b y.next
      right_is =
          ap (λ (l : D). merge bytes bytes (read_as ra (drop i a)) l) read_right.is
          ∙ walk_right_first (merge_at bytes) (read_as ra (drop i a)) (item_in b b y.key y.act) (read_as rb (drop y.next b)) (rw q at h.is).1

      pub step_right : (c' : Counts) (o' : Bytes) → c' ≡ plus_item form c (item_in b b y.key y.act) →
          o' ≡ sets o c.len (field_as form (item_in b b y.key y.act)) → StepIs form ra a i rb b j c o o' (flow.Continue (record { left = i; right = y.next; counts = c' }))
      step_right c' o' ec eo =
          let f = read_right.fits in
          record { is = one_wrote form ra a i rb b j c o c' o' b y.key y.act f.key f.act i y.next right_is ec eo m f.ready (omega arith) (omega (arith, f.ahead)) (omega (arith, f.ahead)) }

    -- an item of both sides
    module _ (x y : Entry) (q : t ≡ Both x y) where
      read_a : Reads ra a i (Some x)
      read_a = (rw q at h.is).0

      read_b : Reads rb b j (Some y)
      read_b = (rw q at h.is).1

      both_is : left_of ra a i rb b j ≡ both_of a x b y ++ left_of ra a x.next rb b y.next
      both_is =
          let k : key_in a x.key ≡ key_in b y.key = (rw q at h.is).2 in
          let z : bytes (key_in a x.key) (key_in b y.key) ≡ Equal = ap (λ (l : Bytes). bytes l (key_in b y.key)) k ∙ strings.self (key_in b y.key) in
          ap₂ (merge bytes bytes) read_a.is read_b.is
          ∙ walk_equal bytes (merge_at bytes) (item_in a a x.key x.act) (read_as ra (drop x.next a)) (item_in b b y.key y.act) (read_as rb (drop y.next b)) z
          ∙ emit_append (key_in a x.key) (table bytes (change_in a a x.act) (change_in b b y.act)) (left_of ra a x.next rb b y.next)

      pub step_both : (c' : Counts) (o' : Bytes) → c' ≡ plus_all form c (both_of a x b y) → o' ≡ sets o c.len (writes form (both_of a x b y)) →
          StepIs form ra a i rb b j c o o' (flow.Continue (record { left = x.next; right = y.next; counts = c' }))
      step_both c' o' ec eo =
          let f = read_a.fits in
          let g = read_b.fits in
          let s = both_small form a x b y f.key f.act g.act in
          record {
            is = (
              record {
                written = both_of a x b y;
                is = both_is;
                counts = ec;
                laid = eo;
                short = omega (arith, s.len, f.ahead, g.ahead);
                announced = omega (arith, s.announced, f.ahead, g.ahead);
                withdrawn = omega (arith, s.withdrawn, f.ahead, g.ahead);
                ready_a = f.ready;
                ready_b = g.ready;
                on_a = omega (arith, f.ahead);
                on_b = omega (arith, g.ahead);
              },
              omega (arith, f.ahead, g.ahead),
            );
          }

-- what a turn takes lies in its run
module _ (ra : Reading) (a : Bytes) (i : ℕ) (rb : Reading) (b : Bytes) (j : ℕ) (t : Turn) (h : TurnIs ra a i rb b j t) where
  pub left_in_lem : (x : Entry) → t ≡ Left x → EntryIn a x
  left_in_lem x q = let f = (rw q at h.is).0.fits in record { key = f.key; act = f.act }

  pub right_in : (y : Entry) → t ≡ Right y → EntryIn b y
  right_in y q = let f = (rw q at h.is).0.fits in record { key = f.key; act = f.act }

  pub both_left : (x y : Entry) → t ≡ Both x y → EntryIn a x
  both_left x y q = let f = (rw q at h.is).0.fits in record { key = f.key; act = f.act }

  pub both_right : (x y : Entry) → t ≡ Both x y → EntryIn b y
  both_right x y q = let f = (rw q at h.is).1.fits in record { key = f.key; act = f.act }

pub ruleset stepping = (step_over, step_left, step_right, step_both, left_in_lem, right_in, both_left, both_right)

-- ---- put_step

-- one piece of a walk behind another
module _ (form : Form) (ra : Reading) (a : Bytes) (i : ℕ) (rb : Reading) (b : Bytes) (j : ℕ) (c : Counts) (o : Bytes) (o₁ : Bytes) (p q : ℕ) (c₁ : Counts)
    (v : Wrote form ra a i rb b j c o o₁ p q c₁) (o₂ : Bytes) (k l : ℕ) (c₂ : Counts) (w : Wrote form ra a p rb b q c₁ o₁ o₂ k l c₂) where
  pub then : Wrote form ra a i rb b j c o o₂ k l c₂
  then = record {
    written = v.written ++ w.written;
    is = v.is ∙ ap (λ (d : D). v.written ++ d) w.is ∙ sym (append_assoc v.written w.written (left_of ra a k rb b l));
    counts = w.counts ∙ ap (λ (x : Counts). plus_all form x w.written) v.counts ∙ sym (plus_append form c v.written w.written);
    laid = w.laid ∙ laid_then ∙ sym (sets_writes form o c.len v.written w.written);
    short = omega (arith, v.short, w.short, ap length (writes_append form v.written w.written), length-append (writes form v.written) (writes form w.written));
    announced = omega (arith, v.announced, w.announced, sum_append announces v.written w.written);
    withdrawn = omega (arith, v.withdrawn, w.withdrawn, sum_append withdraws v.written w.written);
    ready_a = w.ready_a;
    ready_b = w.ready_b;
    on_a = omega (arith, v.on_a, w.on_a);
    on_b = omega (arith, v.on_b, w.on_b);
  }
    where
      laid_then : sets o₁ c₁.len (writes form w.written) ≡ sets (sets o c.len (writes form v.written)) (c.len + length (writes form v.written)) (writes form w.written)
      laid_then = ap₂ (λ (x : Bytes) (n : ℕ). sets x n (writes form w.written)) v.laid (ap (λ (x : Counts). x.len) v.counts)

module _ (form : Form) (ra : Reading) (a : Bytes) (i : ℕ) (rb : Reading) (b : Bytes) (j : ℕ) (c : Counts) (o o' : Bytes) (t : ControlFlow Side Stand)
    (h : StepIs form ra a i rb b j c o o' t) where
  pub pass_over : (s : Side) → t ≡ flow.Break s → StepIs form ra a i rb b j c o o' (flow.Break s)
  pass_over s e = rw e at h

  module _ (n : Stand) (e : t ≡ flow.Continue n) where
    turned : Wrote form ra a i rb b j c o o' n.left n.right n.counts × (i + j < n.left + n.right)
    turned = rw e at h.is

    pub pass_stands : Countable c → Sized a b → Stands ra a n.left rb b n.right n.counts
    pass_stands r s =
        let w = turned.0 in
        let x = w.ready_a.within in
        let y = w.ready_b.within in
        record {
          ready_a = w.ready_a;
          ready_b = w.ready_b;
          short_a = s.short_a;
          short_b = s.short_b;
          len = rw w.counts (omega (arith, r.len, w.short, s.short_a, s.short_b));
          announced = rw w.counts (omega (arith, r.announced, w.announced, s.short_a, s.short_b));
          withdrawn = rw w.counts (omega (arith, r.withdrawn, w.withdrawn, s.short_a, s.short_b));
        }

    pub pass_on : (o'' : Bytes) (s : Stand) → Wrote form ra a n.left rb b n.right n.counts o' o'' s.left s.right s.counts → StepIs form ra a i rb b j c o o'' (flow.Continue s)
    pass_on o'' s w =
        let u = turned in
        record { is = (then form ra a i rb b j c o o' n.left n.right n.counts u.0 o'' s.left s.right s.counts w, omega (arith, u.1, w.on_a, w.on_b)) }

pub ruleset passed = (pass_over, pass_stands, pass_on)

-- ---- put_merge

pub record Merging (form : Form) (ra : Reading) (a : Bytes) (rb : Reading) (b o₀ : Bytes) (i j : ℕ) (c : Counts) (o : Bytes) : Type 0 where
  pub ready_a : Ready ra a i
  pub ready_b : Ready rb b j
  pub short_a : length a ≤ limit Delta
  pub short_b : length b ≤ limit Delta
  pub len : c.len ≤ 40_000 * (i + j)
  pub announced : c.announced ≤ i + j
  pub withdrawn : c.withdrawn ≤ i + j
  pub long : length o ≡ length o₀
  pub left : Left-over form c o (left_of ra a i rb b j) zero o₀ (left_of ra a 0 rb b 0)

pub merge_start : (form : Form) (ra : Reading) (a : Bytes) (rb : Reading) (b o : Bytes) → Runs ra a rb b → Merging form ra a rb b o 0 0 zero o
merge_start form ra a rb b o r = record {
  ready_a = r.good_a;
  ready_b = r.good_b;
  short_a = r.short_a;
  short_b = r.short_b;
  len = omega arith;
  announced = omega arith;
  withdrawn = omega arith;
  long = refl;
  left = record { counts = refl; laid = refl };
}

module _ (form : Form) (ra : Reading) (a : Bytes) (rb : Reading) (b o₀ : Bytes) (i j : ℕ) (c : Counts) (o : Bytes)
    (m : Merging form ra a rb b o₀ i j c o) where
  pub merge_room : Countable c
  merge_room =
      let x = m.ready_a.within in
      let y = m.ready_b.within in
      record {
        len = omega (arith, m.len, m.short_a, m.short_b);
        announced = omega (arith, m.announced, m.short_a, m.short_b);
        withdrawn = omega (arith, m.withdrawn, m.short_a, m.short_b);
      }

  pub merge_sized : Sized a b
  merge_sized = record { short_a = m.short_a; short_b = m.short_b }

  pub merge_passed_a : Passed c i (length a)
  merge_passed_a =
      let y = m.ready_b.within in
      record { short = m.short_a; len = omega (arith, m.len, m.short_b); announced = omega (arith, m.announced, m.short_b); withdrawn = omega (arith, m.withdrawn, m.short_b) }

  pub merge_passed_b : Passed c j (length b)
  merge_passed_b =
      let x = m.ready_a.within in
      record { short = m.short_b; len = omega (arith, m.len, m.short_a); announced = omega (arith, m.announced, m.short_a); withdrawn = omega (arith, m.withdrawn, m.short_a) }

  module _ (o' : Bytes) (t : ControlFlow Side Stand) (h : StepIs form ra a i rb b j c o o' t) where
    -- the walk goes on
    module _ (n : Stand) (e : t ≡ flow.Continue n) where
      wrote : Wrote form ra a i rb b j c o o' n.left n.right n.counts × (i + j < n.left + n.right)
      wrote = rw e at h.is

      pub merge_less : length a - n.left + (length b - n.right) < length a - i + (length b - j)
      merge_less = let w = wrote in omega (arith, w.0.on_a, w.0.on_b, w.1, w.0.ready_a.within, w.0.ready_b.within)

      pub merge_again : Merging form ra a rb b o₀ n.left n.right n.counts o'
      merge_again = let w = wrote.0 in record {
        ready_a = w.ready_a;
        ready_b = w.ready_b;
        short_a = m.short_a;
        short_b = m.short_b;
        len = rw w.counts (omega (arith, m.len, w.short));
        announced = rw w.counts (omega (arith, m.announced, w.announced));
        withdrawn = rw w.counts (omega (arith, m.withdrawn, w.withdrawn));
        long = ap length w.laid ∙ length-sets o c.len (writes form w.written) ∙ m.long;
        left = left_some form c o _ zero o₀ _ m.left w.written (left_of ra a n.left rb b n.right) w.is n.counts o' w.counts w.laid;
      }

    -- one side has run out: the rest of the other follows
    module _ (s : Side) (e : t ≡ flow.Break s) where
      rest_left : s ≡ side.Left → (o' ≡ o) × (left_of ra a i rb b j ≡ read_as ra (drop i a))
      rest_left d =
          let z : (o' ≡ o) × (read_as rb (drop j b) ≡ []) = rw (e, d) at h.is in
          (z.0, ap (merge bytes bytes (read_as ra (drop i a))) z.1 ∙ merge_earlier bytes bytes (read_as ra (drop i a)))

      rest_right : s ≡ side.Right → (o' ≡ o) × (left_of ra a i rb b j ≡ read_as rb (drop j b))
      rest_right d =
          let z : (o' ≡ o) × (read_as ra (drop i a) ≡ []) = rw (e, d) at h.is in
          (z.0, ap (λ (l : D). merge bytes bytes l (read_as rb (drop j b))) z.1 ∙ merge_later bytes bytes (read_as rb (drop j b)))

      pub over_left_counts : s ≡ side.Left → (r : Counts) → r ≡ plus_all form c (read_as ra (drop i a)) → r ≡ plus_all form zero (left_of ra a 0 rb b 0)
      over_left_counts d r f = f ∙ ap (plus_all form c) (sym (rest_left d).1) ∙ m.left.counts

      pub over_left_bytes : s ≡ side.Left → (p : Bytes) → p ≡ sets o' c.len (writes form (read_as ra (drop i a))) → p ≡ sets o₀ 0 (writes form (left_of ra a 0 rb b 0))
      over_left_bytes d p f =
          f ∙ ap₂ (λ (v : Bytes) (x : D). sets v c.len (writes form x)) (rest_left d).0 (sym (rest_left d).1) ∙ m.left.laid

      pub over_right_counts : s ≡ side.Right → (r : Counts) → r ≡ plus_all form c (read_as rb (drop j b)) → r ≡ plus_all form zero (left_of ra a 0 rb b 0)
      over_right_counts d r f = f ∙ ap (plus_all form c) (sym (rest_right d).1) ∙ m.left.counts

      pub over_right_bytes : s ≡ side.Right → (p : Bytes) → p ≡ sets o' c.len (writes form (read_as rb (drop j b))) → p ≡ sets o₀ 0 (writes form (left_of ra a 0 rb b 0))
      over_right_bytes d p f =
          f ∙ ap₂ (λ (v : Bytes) (x : D). sets v c.len (writes form x)) (rest_right d).0 (sym (rest_right d).1) ∙ m.left.laid

pub ruleset merging = (merge_start, merge_room, merge_sized, merge_passed_a, merge_passed_b, merge_less, merge_again, over_left_counts, over_left_bytes, over_right_counts, over_right_bytes)

-- ---- put_whole

module _ (form : Form) (d : D) (c : Counts) (e : c ≡ plus_all form zero d) (o : Bytes) where
  len_is : c.len ≡ length (writes form d)
  len_is = ap (λ (k : Counts). k.len) e ∙ zero-add (length (writes form d))

  pub whole_long : length o < c.len → None ≡ output_of form d (length o)
  whole_long h = rw (lt-leb (length (writes form d)) (length o) (omega (arith, len_is)))

  pub whole_long_bytes : length o < c.len → o ≡ whole_out form d o
  whole_long_bytes h = rw (lt-leb (length (writes form d)) (length o) (omega (arith, len_is)))

  pub whole_fits : c.len ≤ length o → Some c ≡ output_of form d (length o)
  whole_fits h = rw (le-leb (length (writes form d)) (length o) (omega (arith, len_is))) (ap Some e)

  pub whole_bytes : (p : Bytes) → c.len ≤ length o → p ≡ sets o 0 (writes form d) → p ≡ whole_out form d o
  whole_bytes p h q =
      let k : length (writes form d) ≤ length o = omega (arith, len_is) in
      rw (le-leb (length (writes form d)) (length o) k) (q ∙ sets-eq (writes form d) o 0 (simp zero-add k) ∙ simp zero-add)

pub ruleset whole = (whole_long, whole_long_bytes, whole_fits, whole_bytes)
