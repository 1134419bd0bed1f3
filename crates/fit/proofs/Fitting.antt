-- Laws of application: the first item of a delta that cannot be applied.
use Prim.Native.Nat.{ℕ, ◌+◌, ◌-◌, ◌<◌, ◌≤◌}
use mathlib.Core.Path.{◌≡◌, refl, sym, ap, subst, ◌∙◌}
use mathlib.Core.List.{List, [], ◌∷◌, ◌++◌, map}
use mathlib.Core.Option.{Option, none, some}
use mathlib.Core.Bool.{Bool, true, false, not}
use native.Mathlib.Omega.{arith}
use borrow.Author.Tests.{not-true, not-false}
use lib.ListN.{length, drop}
use Rattle.std.specs.declared.cmp.Ordering.{Ordering}
use Rattle.std.specs.declared.cmp.Ordering.TheVariants.{Greater}
use Rattle.order.specs.Comparison.{bytes, flip}
use Rattle.order.specs.Map.{Item, All, lookup, own, Below, Sorted}
use Rattle.order.proofs.Never.{never}
use Rattle.order.proofs.Comparison.{strings}
use Rattle.order.proofs.Map.{absent}
use Rattle.change.specs.Change.{Change, announce}
use Rattle.change.specs.Difference as change
use Rattle.change.specs.Application.{fits, is_equal}
use Rattle.change.proofs.Whole.{as_new, diff_new}
use Rattle.number.specs.Bytes.{AllBytes}
use Rattle.body.specs.declared.tag.Form.TheVariants as form
use Rattle.field.specs.Cells.{Cell, cells}
use Rattle.field.specs.Places.{key_in}
use Rattle.payload.specs.Content.{Bytes, entry_of}
use Rattle.payload.specs.Payload.{entries, items, changes}
use Rattle.payload.proofs.Faithful.{read}
use Rattle.item.specs.declared.place.Part.{Part}
use Rattle.item.specs.declared.place.Act.{Act}
use Rattle.item.specs.declared.place.Act.TheVariants.{Announce, Withdraw, Update}
use Rattle.item.specs.declared.place.Entry.{Entry}
use Rattle.item.specs.declared.reading.Reading.TheVariants.{Announced, Changes}
use Rattle.turn.specs.declared.turn.Side.{Side}
use Rattle.turn.specs.declared.turn.Side.TheVariants as side
use Rattle.turn.specs.declared.turn.Turn.{Turn}
use Rattle.turn.specs.declared.turn.Turn.TheVariants.{Over, Left, Right, Both}
use Rattle.item.specs.Place.{part_in, change_in, item_in, PartFits, ActFits}
use Rattle.item.specs.Reading.{read_as, Ready, FieldIs, Reads}
use Rattle.item.specs.Front.{front_key}
use Rattle.item.proofs.Fronts.{front_less}
use Rattle.turn.specs.Seek.{Bounds, Seeks}
use Rattle.fit.specs.declared.FitStep.{FitStep}
use Rattle.fit.specs.declared.FitStep.TheVariants as fit-step
use Rattle.turn.specs.Turn.{TurnIs, TurnMeans}
use Rattle.fit.specs.Fit.{misfit, fit_of}
use Rattle.fit.specs.Fitting.{absent_place, value_place, Pairs, Onward, Past, FitStepMeans, FitStepIs}
use Rattle.item.proofs.Sinking.{fits_withdraw, fits_former}
use Rattle.std.specs.Prelude as opt
use Rattle.std.specs.Prelude.{None, Some}

-- ---- the small functions

module _ (v b : Bytes) (act : Act) where
  pub held_announce : (n : Part) → act ≡ Announce n → false ≡ fits bytes (some v) (change_in b b act)
  held_announce n e = rw e

  pub held_withdraw : (p : Part) (r : Bool) → act ≡ Withdraw p → r ≡ is_equal (bytes v (part_in b p)) → r ≡ fits bytes (some v) (change_in b b act)
  held_withdraw p r e d = rw e d

  pub held_update : (p n : Part) (r : Bool) → act ≡ Update p n → r ≡ is_equal (bytes v (part_in b p)) → r ≡ fits bytes (some v) (change_in b b act)
  held_update p n r e d = rw e d

pub ruleset held = (fits_withdraw, fits_former, held_announce, held_withdraw, held_update)

-- ---- the first misfit, field by field

misfit_nil : (A : change.Snapshot Bytes Bytes) (at : ℕ) → misfit A at [] ≡ None
unfolding misfit
misfit_nil A at = refl

abbrev fits_in : change.Snapshot Bytes Bytes → Cell → Bool
fits_in A c = fits bytes (lookup bytes (entry_of form.Delta c).key A) (entry_of form.Delta c).val

misfit_here : (A : change.Snapshot Bytes Bytes) (at : ℕ) (c : Cell) (cs : List Cell) → fits_in A c ≡ false → misfit A at (c ∷ cs) ≡ Some at
unfolding misfit
misfit_here A at c cs e = rw e

misfit_on : (A : change.Snapshot Bytes Bytes) (at : ℕ) (c : Cell) (cs : List Cell) → fits_in A c ≡ true → misfit A at (c ∷ cs) ≡ misfit A (at + 3 + length c.body) cs
unfolding misfit
misfit_on A at c cs e = rw e

-- a held item below all of a delta does not matter to it
misfit_past : (x : Item Bytes Bytes) (A : change.Snapshot Bytes Bytes) (at : ℕ) (cs : List Cell) →
    Below bytes x.key (map (entry_of form.Delta) cs) → Sorted bytes (map (entry_of form.Delta) cs) → misfit (x ∷ A) at cs ≡ misfit A at cs
misfit_past x A at [] b s = misfit_nil (x ∷ A) at ∙ sym (misfit_nil A at)
misfit_past x A at (c ∷ cs) b s = go (fits_in A c) refl (misfit_past x A (at + 3 + length c.body) cs (below cs s.0) s.1)
  where
    k : Bytes
    k = (entry_of form.Delta c).key

    above : bytes k x.key ≡ Greater
    above = strings.turn x.key k ∙ ap flip b

    same : fits_in (x ∷ A) c ≡ fits_in A c
    same = ap (λ (o : Ordering). fits bytes (own o (some x.val) (lookup bytes k A)) (entry_of form.Delta c).val) above

    below : (cs : List Cell) → Below bytes k (map (entry_of form.Delta) cs) → Below bytes x.key (map (entry_of form.Delta) cs)
    below [] h = tt
    below (d ∷ ds) h = strings.trans x.key k (entry_of form.Delta d).key b h

    go : (t : Bool) → fits_in A c ≡ t → misfit (x ∷ A) (at + 3 + length c.body) cs ≡ misfit A (at + 3 + length c.body) cs →
        misfit (x ∷ A) at (c ∷ cs) ≡ misfit A at (c ∷ cs)
    go true e i = misfit_on (x ∷ A) at c cs (same ∙ e) ∙ i ∙ sym (misfit_on A at c cs e)
    go false e i = misfit_here (x ∷ A) at c cs (same ∙ e) ∙ sym (misfit_here A at c cs e)

-- ---- what was read

-- a change that lies in b fits where nothing is held exactly if it announces
absent_fits : (b : Bytes) (act : Act) → absent_place act ≡ fits bytes none (change_in b b act)
absent_fits b (Announce n) = refl
absent_fits b (Withdraw p) = refl
absent_fits b (Update p n) = refl

-- the delta at j
module _ (d : Bytes) (j : ℕ) (y : Entry) (r : Reads Changes d j (Some y)) where
  abbrev F : FieldIs Changes d j y
  F = r.fits.field

  key_is : key_in d y.key ≡ (entry_of form.Delta F.cell).key
  key_is = ap (λ (x : Item Bytes (Change Bytes)). x.key) F.says

  val_is : change_in d d y.act ≡ (entry_of form.Delta F.cell).val
  val_is = ap (λ (x : Item Bytes (Change Bytes)). x.val) F.says

  module _ (A : change.Snapshot Bytes Bytes) (o : Option Bytes) (l : lookup bytes (key_in d y.key) A ≡ o) (t : Bool) (e : t ≡ fits bytes o (change_in d d y.act)) where
    here : fits_in A F.cell ≡ t
    here = rw (← key_is, ← val_is, l) (sym e)

    stops : not t ≡ true → misfit A j (cells (drop j d)) ≡ Some j
    stops h = ap (misfit A j) F.front ∙ misfit_here A j F.cell (cells (drop y.next d)) (here ∙ not-true t h)

    goes_on : not t ≡ false → misfit A j (cells (drop j d)) ≡ misfit A y.next (cells (drop y.next d))
    goes_on h =
        ap (misfit A j) F.front ∙ misfit_on A j F.cell (cells (drop y.next d)) (here ∙ not-false t h)
        ∙ ap (λ (n : ℕ). misfit A n (cells (drop y.next d))) (sym F.next)

ended : (d : Bytes) (j : ℕ) (r : Reads Changes d j None) (A : change.Snapshot Bytes Bytes) → misfit A j (cells (drop j d)) ≡ None
ended d j r A = ap (misfit A j) r.fits ∙ misfit_nil A j

-- ---- fit_rest

pub record Resting (d : Bytes) (from at : ℕ) : Type 0 where
  pub ready : Ready Changes d at
  pub left : misfit [] at (cells (drop at d)) ≡ misfit [] from (cells (drop from d))

pub rest_start : (d : Bytes) (from : ℕ) → Ready Changes d from → Resting d from from
rest_start d from r = record { ready = r; left = refl }

module _ (d : Bytes) (from at : ℕ) (h : Resting d from at) (r : opt.Option Entry) (e : Reads Changes d at r) where
  pub rest_end : r ≡ None → None ≡ misfit [] from (cells (drop from d))
  rest_end q = sym (ended d at (rw q at e) []) ∙ h.left

  module _ (y : Entry) (q : r ≡ Some y) (t : Bool) (f : t ≡ absent_place y.act) where
    one : Reads Changes d at (Some y)
    one = rw q at e

    pub rest_misfit : not t ≡ true → Some at ≡ misfit [] from (cells (drop from d))
    rest_misfit z = sym (stops d at y one [] none refl t (f ∙ absent_fits d y.act) z) ∙ h.left

    pub rest_again : not t ≡ false → Resting d from y.next
    rest_again z = record { ready = one.fits.ready; left = sym (goes_on d at y one [] none refl t (f ∙ absent_fits d y.act) z) ∙ h.left }

  pub rest_less : (y : Entry) → r ≡ Some y → length d - y.next < length d - at
  rest_less y q = let f = (rw q at e.fits) in omega (arith, f.ahead, f.ready.within)

pub ruleset resting = (rest_start, rest_end, rest_misfit, rest_again, rest_less)

-- ---- first_misfit

-- a list whose images are none is none
no_images : {A B : Type 0} (f : A → B) (l : List A) → map f l ≡ [] → l ≡ []
no_images f [] e = refl
no_images f (x ∷ l) e = never cc

no_cells : (d : Bytes) → changes d ≡ [] → cells d ≡ []
unfolding entries
no_cells d e = no_images (entry_of form.Delta) (cells d) e

no_items : (s : Bytes) → read_as Announced s ≡ [] → items s ≡ []
no_items s e = no_images as_new (items s) (sym (diff_new bytes bytes (items s)) ∙ e)

-- below all that is announced is below all that is held
below_new : (k : Bytes) (A : change.Snapshot Bytes Bytes) → Below bytes k (map as_new A) → Below bytes k A
below_new k [] h = tt
below_new k (x ∷ A) h = h

below_items : (k s : Bytes) → Below bytes k (read_as Announced s) → Below bytes k (items s)
below_items k s h = below_new k (items s) (subst (Below bytes k) (diff_new bytes bytes (items s)) h)

-- the held value lies where its announcement says
value_is : (s : Bytes) (act : Act) (v : Bytes) → change_in s s act ≡ announce v → part_in s (value_place act) ≡ v
value_is s (Announce n) v e = cc
value_is s (Withdraw p) v e = never cc
value_is s (Update p n) v e = never cc

pub value_fits : (s : Bytes) (act : Act) (v : Part) → ActFits s s act → v ≡ value_place act → PartFits s v
value_fits s (Announce n) v f e = rw e f.parts
value_fits s (Withdraw p) v f e = rw e f.parts
value_fits s (Update p n) v f e = rw e f.parts.1

-- the snapshot at i
module _ (s : Bytes) (i : ℕ) (x : Entry) (r : Reads Announced s i (Some x)) where
  abbrev G : FieldIs Announced s i x
  G = r.fits.field

  abbrev held_item : Item Bytes Bytes
  held_item = entry_of form.Snapshot G.cell

  items_are : items (drop i s) ≡ held_item ∷ items (drop x.next s)
  unfolding entries
  items_are = ap (map (entry_of form.Snapshot)) G.front

  held_key : key_in s x.key ≡ held_item.key
  held_key = ap (λ (y : Item Bytes (Change Bytes)). y.key) G.says

  held_value : part_in s (value_place x.act) ≡ held_item.val
  held_value = value_is s x.act held_item.val (ap (λ (y : Item Bytes (Change Bytes)). y.val) G.says)

-- ---- pass_below

-- items with fronts below the delta's next one do not matter to it
misfit_low : (bound : ℕ) (e : change.Snapshot Bytes Bytes) → All (λ (x : Item Bytes Bytes). front_key x.key < bound) e → (A : change.Snapshot Bytes Bytes) (at : ℕ) (cs : List Cell)
    → ((y : Item Bytes (Change Bytes)) (rest : change.Delta Bytes Bytes) → map (entry_of form.Delta) cs ≡ y ∷ rest → (bound ≤ front_key y.key) × AllBytes y.key)
    → Sorted bytes (map (entry_of form.Delta) cs) → misfit (e ++ A) at cs ≡ misfit A at cs
misfit_low bound [] h A at cs g s = refl
misfit_low bound (x ∷ e) h A at cs g s = misfit_past x (e ++ A) at cs (low (map (entry_of form.Delta) cs) refl) s ∙ misfit_low bound e h.1 A at cs g s
  where
    low : (C : change.Delta Bytes Bytes) → map (entry_of form.Delta) cs ≡ C → Below bytes x.key C
    low [] q = tt
    low (y ∷ rest) q = let z = g y rest q in front_less x.key y.key z.1 (omega (arith, h.0, z.0))

module _ (s : Bytes) (i : ℕ) (d : Bytes) (j : ℕ) (p : Pairs s i d j) where
  pub pairs_left : Ready Announced s i
  pairs_left = p.ready_s

  pub pairs_right : Ready Changes d j
  pairs_right = p.ready_d

  pub past_is : (bound r n : ℕ) → Bounds d j bound → Seeks s i bound r n → Past s i d j r
  unfolding entries
  past_is bound r n b k =
      record {
        pairs = record { ready_s = k.ready; ready_d = p.ready_d };
        on_s = k.on;
        on_d = omega arith;
        same = ap (λ (A : change.Snapshot Bytes Bytes). misfit A j (cells (drop j d))) k.split
            ∙ misfit_low bound k.passed k.low (items (drop r s)) j (cells (drop j d)) b.above (read form.Delta p.ready_d.good.run).sorted;
      }

pub ruleset past = (pairs_left, pairs_right, past_is)

-- ---- fit_turn

module _ (s : Bytes) (i : ℕ) (d : Bytes) (j : ℕ) (m : Pairs s i d j) (t : Turn) (h : TurnIs Announced s i Changes d j t) where
  sorted_d : Sorted bytes (changes (drop j d))
  sorted_d = (read form.Delta m.ready_d.good.run).sorted

  sorted_s : Sorted bytes (items (drop i s))
  sorted_s = (read form.Snapshot m.ready_s.good.run).sorted

  pub fit_over : (w : Side) → t ≡ Over w → FitStepIs s i d j (fit-step.Over w)
  fit_over w q = record { is = go w (rw q at h.is) }
    where
      go : (w : Side) → TurnMeans Announced s i Changes d j (Over w) → FitStepMeans s i d j (fit-step.Over w)
      go side.Left z = z
      go side.Right z = no_items (drop i s) z

  module _ (x : Entry) (q : t ≡ Left x) where
    left_read : Reads Announced s i (Some x)
    left_read = (rw q at h.is).0

    pub pass_held : FitStepIs s i d j (fit-step.On x.next j)
    unfolding entries
    pass_held =
        let b : Below bytes (key_in s x.key) (changes (drop j d)) = (rw q at h.is).1 in
        let c : Below bytes (held_item s i x left_read).key (changes (drop j d)) = subst (λ (k : Bytes). Below bytes k (changes (drop j d))) (held_key s i x left_read) b in
        let f = left_read.fits in
        record {
          is = (
            record {
              pairs = record { ready_s = f.ready; ready_d = m.ready_d };
              same = ap (λ (A : change.Snapshot Bytes Bytes). misfit A j (cells (drop j d))) (items_are s i x left_read)
                  ∙ misfit_past (held_item s i x left_read) (items (drop x.next s)) j (cells (drop j d)) c sorted_d;
              on_s = omega (arith, f.ahead);
              on_d = omega arith;
            },
            omega (arith, f.ahead),
          );
        }

  module _ (y : Entry) (q : t ≡ Right y) (r : Bool) (f : r ≡ absent_place y.act) where
    right_read : Reads Changes d j (Some y)
    right_read = (rw q at h.is).0

    not_held : lookup bytes (key_in d y.key) (items (drop i s)) ≡ none
    not_held = absent strings (key_in d y.key) (items (drop i s)) (below_items (key_in d y.key) (drop i s) (rw q at h.is).1) sorted_s

    pub absent_stops : not r ≡ true → FitStepIs s i d j fit-step.Misfit
    absent_stops z = record { is = stops d j y right_read (items (drop i s)) none not_held r (f ∙ absent_fits d y.act) z }

    pub absent_again : not r ≡ false → FitStepIs s i d j (fit-step.On i y.next)
    absent_again z =
        let e = right_read.fits in
        record {
          is = (
            record {
              pairs = record { ready_s = m.ready_s; ready_d = e.ready };
              same = goes_on d j y right_read (items (drop i s)) none not_held r (f ∙ absent_fits d y.act) z;
              on_s = omega arith;
              on_d = omega (arith, e.ahead);
            },
            omega (arith, e.ahead),
          );
        }

  module _ (x y : Entry) (q : t ≡ Both x y) where
    read_s : Reads Announced s i (Some x)
    read_s = (rw q at h.is).0

    read_d : Reads Changes d j (Some y)
    read_d = (rw q at h.is).1

    pub both_value : (v : Part) → v ≡ value_place x.act → PartFits s v
    both_value v e = value_fits s x.act v read_s.fits.act e

    pub both_change : ActFits d d y.act
    both_change = read_d.fits.act

    module _ (v : Part) (e : v ≡ value_place x.act) (r : Bool) (f : r ≡ fits bytes (some (part_in s v)) (change_in d d y.act)) where
      same_key : key_in d y.key ≡ (held_item s i x read_s).key
      same_key = sym (rw q at h.is).2 ∙ held_key s i x read_s

      is_held : lookup bytes (key_in d y.key) (items (drop i s)) ≡ some (held_item s i x read_s).val
      is_held =
          ap (lookup bytes (key_in d y.key)) (items_are s i x read_s)
          ∙ ap (λ (k : Bytes). lookup bytes k (held_item s i x read_s ∷ items (drop x.next s))) same_key
          ∙ ap (λ (o : Ordering). own o (some (held_item s i x read_s).val) (lookup bytes (held_item s i x read_s).key (items (drop x.next s)))) (strings.self (held_item s i x read_s).key)

      fits_it : r ≡ fits bytes (some (held_item s i x read_s).val) (change_in d d y.act)
      fits_it = f ∙ ap (λ (w : Bytes). fits bytes (some w) (change_in d d y.act)) (ap (part_in s) e ∙ held_value s i x read_s)

      pub held_stops : not r ≡ true → FitStepIs s i d j fit-step.Misfit
      held_stops z = record { is = stops d j y read_d (items (drop i s)) (some (held_item s i x read_s).val) is_held r fits_it z }

      behind : Below bytes (held_item s i x read_s).key (changes (drop y.next d)) × Sorted bytes (changes (drop y.next d))
      behind =
          let z : Sorted bytes (item_in d d y.key y.act ∷ changes (drop y.next d)) = subst (Sorted bytes) read_d.is sorted_d in
          (subst (λ (k : Bytes). Below bytes k (changes (drop y.next d))) same_key z.0, z.1)

      pub held_again : not r ≡ false → FitStepIs s i d j (fit-step.On x.next y.next)
      unfolding entries
      held_again z =
          let u = read_s.fits in
          let w = read_d.fits in
          record {
            is = (
              record {
                pairs = record { ready_s = u.ready; ready_d = w.ready };
                same = goes_on d j y read_d (items (drop i s)) (some (held_item s i x read_s).val) is_held r fits_it z
                    ∙ ap (λ (A : change.Snapshot Bytes Bytes). misfit A y.next (cells (drop y.next d))) (items_are s i x read_s)
                    ∙ misfit_past (held_item s i x read_s) (items (drop x.next s)) y.next (cells (drop y.next d)) behind.0 behind.1;
                on_s = omega (arith, u.ahead);
                on_d = omega (arith, w.ahead);
              },
              omega (arith, u.ahead, w.ahead),
            );
          }

pub ruleset turns = (pairs_left, pairs_right, fit_over, pass_held, absent_stops, absent_again, both_value, both_change, held_stops, held_again)

-- ---- fit_step

module _ (s : Bytes) (i : ℕ) (d : Bytes) (j : ℕ) (t : FitStep) (h : FitStepIs s i d j t) where
  pub step_over : (w : Side) → t ≡ fit-step.Over w → FitStepIs s i d j (fit-step.Over w)
  step_over w e = rw e at h

  pub step_misfit : t ≡ fit-step.Misfit → FitStepIs s i d j fit-step.Misfit
  step_misfit e = rw e at h

  module _ (p q : ℕ) (e : t ≡ fit-step.On p q) where
    went : Onward s i d j p q × (i + j < p + q)
    went = rw e at h.is

    pub step_pairs : Pairs s p d q
    step_pairs = went.0.pairs

    pub step_on : (r : ℕ) → Past s p d q r → FitStepIs s i d j (fit-step.On r q)
    step_on r k =
        let w = went in
        record {
          is = (
            record { pairs = k.pairs; same = w.0.same ∙ k.same; on_s = omega (arith, w.0.on_s, k.on_s); on_d = w.0.on_d },
            omega (arith, w.1, k.on_s),
          );
        }

pub ruleset steps = (step_over, step_misfit, step_pairs, step_on)

-- ---- first_misfit

pub record Fitting (s d : Bytes) (i j : ℕ) : Type 0 where
  pub pairs : Pairs s i d j
  pub left : misfit (items (drop i s)) j (cells (drop j d)) ≡ fit_of s d

pub fitting_start : (s d : Bytes) → Pairs s 0 d 0 → Fitting s d 0 0
fitting_start s d p = record { pairs = p; left = refl }

module _ (s d : Bytes) (i j : ℕ) (m : Fitting s d i j) where
  pub fitting_pairs : Pairs s i d j
  fitting_pairs = m.pairs

  pub fitting_rest : Ready Changes d j
  fitting_rest = m.pairs.ready_d

  module _ (t : FitStep) (h : FitStepIs s i d j t) where
    module _ (w : Side) (q : t ≡ fit-step.Over w) where
      pub fits_all : w ≡ side.Left → None ≡ fit_of s d
      fits_all e =
          let z : changes (drop j d) ≡ [] = rw (q, e) at h.is in
          sym (ap (misfit (items (drop i s)) j) (no_cells (drop j d) z) ∙ misfit_nil (items (drop i s)) j) ∙ m.left

      pub fits_rest : w ≡ side.Right → (r : opt.Option ℕ) → r ≡ misfit [] j (cells (drop j d)) → r ≡ fit_of s d
      fits_rest e r f =
          let z : items (drop i s) ≡ [] = rw (q, e) at h.is in
          f ∙ ap (λ (A : change.Snapshot Bytes Bytes). misfit A j (cells (drop j d))) (sym z) ∙ m.left

    pub fits_not : t ≡ fit-step.Misfit → Some j ≡ fit_of s d
    fits_not q = sym (rw q at h.is) ∙ m.left

    module _ (p q : ℕ) (e : t ≡ fit-step.On p q) where
      pub fits_again : Fitting s d p q
      fits_again = let w = (rw e at h.is) in record { pairs = w.0.pairs; left = sym w.0.same ∙ m.left }

      pub fits_less : length s - p + (length d - q) < length s - i + (length d - j)
      fits_less = let w = (rw e at h.is) in omega (arith, w.0.on_s, w.0.on_d, w.1, w.0.pairs.ready_s.within, w.0.pairs.ready_d.within)

pub ruleset fitting = (fitting_start, fitting_pairs, fitting_rest, fits_all, fits_rest, fits_not, fits_again, fits_less)
