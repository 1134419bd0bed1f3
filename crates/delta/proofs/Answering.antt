-- Laws of the three entries.
use Prim.Native.Nat.{ℕ, ◌+◌, ◌≤◌, ◌<◌}
use mathlib.Core.Path.{◌≡◌, refl, sym, ap, ap₂, ◌∙◌}
use mathlib.Core.List.{List, [], ◌∷◌, map}
use mathlib.Core.Bool.{Bool, true, false, cond}
use native.Mathlib.Omega.{arith}
use native.Mathlib.Nat.{zero-add}
use borrow.Author.Tests.{leb-true, leb-false, le-leb, lt-leb, eq-eqb, ne_eqb}
use lib.Dec.{leb}
use lib.ListN.{length}
use Rattle.order.specs.Comparison.{bytes}
use Rattle.order.specs.Map.{All, lookup}
use Rattle.order.proofs.Never.{never}
use Rattle.order.proofs.Comparison.{strings}
use Rattle.change.specs.Difference as change
use Rattle.change.specs.Application.{fits, apply, Applies}
use Rattle.change.proofs.Whole.{as_new, diff_new, diff_as_merge, apply_as_merge}
use Rattle.change.proofs.Items.{ItemFits, fit_items}
use Rattle.serial.specs.declared.Serial.{Serial}
use Rattle.serial.specs.Serial.{next_of}
use Rattle.body.specs.declared.tag.Form.{Form}
use Rattle.body.specs.declared.tag.Form.TheVariants.{Snapshot, Delta}
use Rattle.field.specs.Verdict.{verdict}
use Rattle.field.specs.Cells.{Cell, cells}
use Rattle.field.specs.Cells as run
use Rattle.field.proofs.Walk.{good_start_lem}
use Rattle.payload.specs.Content.{Bytes, entry_of, cell_for}
use Rattle.payload.specs.Limit.{limit}
use Rattle.payload.specs.Payload.{entries, encode, items, changes}
use Rattle.payload.specs.Count.{announces, withdraws, sum_of}
use Rattle.payload.proofs.Faithful.{faithful}
use Rattle.payload.proofs.Counts.{announced_encode, withdrawn_encode}
use Rattle.delta.specs.declared.refusal.Refusal.{Refusal}
use Rattle.delta.specs.declared.refusal.Refusal.TheVariants as refusal
use Rattle.item.specs.declared.sink.Counts.{Counts}
use Rattle.item.specs.declared.reading.Reading.{Reading}
use Rattle.item.specs.declared.reading.Reading.TheVariants.{Withdrawn, Announced, Changes}
use Rattle.delta.specs.Admission.{and_then, limit_admitted, judged_of, verdict_admitted, admit_of}
use Rattle.delta.specs.Inputs.{Inputs}
use Rattle.item.specs.Reading.{form_of, Ready}
use Rattle.item.specs.Write.{cell_as, writes, plus_all, zero}
use Rattle.walk.specs.Walk.{Runs, merged_as, output_of, whole_out}
use Rattle.fit.specs.Fit.{misfit, fit_of}
use Rattle.delta.specs.Answer.{difference_of, merged_of, applied_of, counts_of, out_after, construct_of, construct_out, merge_of, merge_out, apply_of, apply_out}
use Rattle.item.proofs.Putting.{counts_path}
use Rattle.std.specs.Prelude.{None, Option, Some, Err, Ok}
use Rattle.delta.specs.Admission.{Admitted}
use Rattle.field.specs.declared.verdict.Flaw.TheVariants as flaw
use Rattle.field.specs.Verdict.{Verdict}

-- ---- what was admitted is good, and within its limit

pub both_yes : (x y : Admitted) → and_then x y ≡ Ok tt → (x ≡ Ok tt) × (y ≡ Ok tt)
both_yes (Ok tt) y e = (refl, e)
both_yes (Err r) y e = never cc

limit_yes : (form : Form) (s : Bytes) (n : ℕ) → limit_admitted form s n ≡ Ok tt → length s ≤ limit form
limit_yes form s n = go (leb (length s) (limit form)) refl
  where
    go : (t : Bool) → leb (length s) (limit form) ≡ t → ◌≡◌ {A = Admitted} (cond t (Ok tt) (Err (refusal.TooLong n))) (Ok tt) → length s ≤ limit form
    go true e h = leb-true (length s) (limit form) e
    go false e h = never cc

judged_yes : (n : ℕ) (v : Verdict) → verdict_admitted n v ≡ Ok tt → v ≡ Ok tt
judged_yes n (Ok tt) e = refl
judged_yes n (Err (flaw.Bad at)) e = never cc
judged_yes n (Err (flaw.Senseless at)) e = never cc
judged_yes n (Err (flaw.NotAbove at)) e = never cc

pub admitted_inputs : (f : Form) (a : Bytes) (g : Form) (b : Bytes) → admit_of f a g b ≡ Ok tt → Inputs f a g b
admitted_inputs f a g b e =
    let p = both_yes (limit_admitted f a 1) (and_then (limit_admitted g b 2) (and_then (judged_of f a 1) (judged_of g b 2))) e in
    let q = both_yes (limit_admitted g b 2) (and_then (judged_of f a 1) (judged_of g b 2)) p.1 in
    let r = both_yes (judged_of f a 1) (judged_of g b 2) q.1 in
    record {
      short_a = limit_yes f a 1 p.0;
      short_b = limit_yes g b 2 q.0;
      fine_a = judged_yes 1 (verdict f a) r.0;
      fine_b = judged_yes 2 (verdict g b) r.1;
    }

limit_high : (form : Form) → limit form ≤ limit Delta
limit_high Snapshot = omega arith
limit_high Delta = omega arith

pub ready_start : (reading : Reading) (s : Bytes) → verdict (form_of reading) s ≡ Ok tt → Ready reading s 0
ready_start reading s e = record { good = good_start_lem (form_of reading) s e; within = omega arith }

pub runs_of : (ra : Reading) (a : Bytes) (rb : Reading) (b : Bytes) → Inputs (form_of ra) a (form_of rb) b → Runs ra a rb b
runs_of ra a rb b i = record {
  good_a = ready_start ra a i.fine_a;
  good_b = ready_start rb b i.fine_b;
  short_a = let h = limit_high (form_of ra) in omega (arith, i.short_a);
  short_b = let h = limit_high (form_of rb) in omega (arith, i.short_b);
}

-- ---- the bytes of the merge are those of the answer

-- a delta's changes are written as its encoding
pub counts_are : (d : change.Delta Bytes Bytes) → plus_all Delta zero d ≡ counts_of (encode Delta d)
unfolding encode
counts_are d =
    counts_path (zero-add (length (encode Delta d))) (zero-add (sum_of announces d) ∙ sym (announced_encode d))
    (zero-add (sum_of withdraws d) ∙ sym (withdrawn_encode d))

module _ (old new : Bytes) (i : Inputs Snapshot old Snapshot new) where
  pub difference_is : encode Delta (merged_as Withdrawn old Announced new) ≡ difference_of old new
  unfolding difference_of
  difference_is =
      let a = (faithful Snapshot).map_of old i.fine_a in
      let b = (faithful Snapshot).map_of new i.fine_b in
      ap (encode Delta) (sym (diff_as_merge strings strings (items old) (items new) a.sorted b.sorted))

merged_is : (earlier later : Bytes) → encode Delta (merged_as Changes earlier Changes later) ≡ merged_of earlier later
unfolding merged_of
merged_is earlier later = refl

-- ---- application

-- a delta none of whose items misfits fits item by item
all_fit : (A : change.Snapshot Bytes Bytes) (at : ℕ) (cs : List Cell) → misfit A at cs ≡ None → All (ItemFits strings bytes A) (map (entry_of Delta) cs)
unfolding misfit
all_fit A at [] e = tt
all_fit A at (c ∷ cs) e = go (fits bytes (lookup bytes (entry_of Delta c).key A) (entry_of Delta c).val) refl e (λ n h. all_fit A n cs h)
  where
    go : (t : Bool) → fits bytes (lookup bytes (entry_of Delta c).key A) (entry_of Delta c).val ≡ t →
        cond t (misfit A (at + 3 + length c.body) cs) (Some at) ≡ None →
        ((n : ℕ) → misfit A n cs ≡ None → All (ItemFits strings bytes A) (map (entry_of Delta) cs)) →
        All (ItemFits strings bytes A) (map (entry_of Delta) (c ∷ cs))
    go true f h ih = (f, ih (at + 3 + length c.body) h)
    go false f h ih = never cc

pub fit_applies : (s d : Bytes) → fit_of s d ≡ None → Applies bytes bytes (items s) (changes d)
unfolding entries
fit_applies s d e = fit_items strings bytes (items s) (changes d) (all_fit (items s) 0 (cells d) e)

-- announced items are written in a snapshot as its encoding
snapshot_writes : (A : change.Snapshot Bytes Bytes) → map (cell_as Snapshot) (map as_new A) ≡ map (cell_for Snapshot) A
snapshot_writes [] = refl
snapshot_writes (x ∷ A) = ap (λ (l : List Cell). cell_for Snapshot x ∷ l) (snapshot_writes A)

module _ (s d : Bytes) (i : Inputs Snapshot s Delta d) (e : fit_of s d ≡ None) where
  applied_is : writes Snapshot (merged_as Announced s Changes d) ≡ applied_of s d
  unfolding applied_of encode
  applied_is =
      let a = (faithful Snapshot).map_of s i.fine_a in
      let b = (faithful Delta).map_of d i.fine_b in
      ap (writes Snapshot) (sym (apply_as_merge strings strings (items s) (changes d) a.sorted b.sorted (fit_applies s d e)) ∙ diff_new bytes bytes (apply bytes (items s) (changes d)))
      ∙ ap run.cell_bytes (snapshot_writes (apply bytes (items s) (changes d)))

-- ---- what put_whole answered

module _ (form : Form) (d : change.Delta Bytes Bytes) (n : ℕ) where
  no_room : None ≡ output_of form d n → n < length (writes form d)
  no_room = go (leb (length (writes form d)) n) refl
    where
      go : (t : Bool) → leb (length (writes form d)) n ≡ t → None ≡ cond t (Some (plus_all form zero d)) None → n < length (writes form d)
      go true e h = never cc
      go false e h = leb-false (length (writes form d)) n e

  written : (c : Counts) → Some c ≡ output_of form d n → (length (writes form d) ≤ n) × (c ≡ plus_all form zero d)
  written c = go (leb (length (writes form d)) n) refl
    where
      go : (t : Bool) → leb (length (writes form d)) n ≡ t → Some c ≡ cond t (Some (plus_all form zero d)) None →
          (length (writes form d) ≤ n) × (c ≡ plus_all form zero d)
      go true e h = (leb-true (length (writes form d)) n e, cc)
      go false e h = never cc

-- the same of a delta's bytes
module _ (d : change.Delta Bytes Bytes) (b : Bytes) (e : encode Delta d ≡ b) (n : ℕ) where
  pub delta_room : None ≡ output_of Delta d n → n < length b
  unfolding encode
  delta_room h = rw (← e) (no_room Delta d n h)

  pub delta_written : (c : Counts) → Some c ≡ output_of Delta d n → (length b ≤ n) × (c ≡ counts_of b)
  unfolding encode
  delta_written c h = rw (← e) ((written Delta d n c h).0, (written Delta d n c h).1 ∙ counts_are d)

pub delta_out : (d : change.Delta Bytes Bytes) (b : Bytes) → encode Delta d ≡ b → (o : Bytes) → whole_out Delta d o ≡ out_after (Ok tt) b o
unfolding encode
delta_out d b e o = ap (λ (s : Bytes). out_after (Ok tt) s o) e

-- ---- construct

module _ (old new : Bytes) (serial : Serial) (o : Bytes) (x : Admitted) (e : x ≡ admit_of Snapshot old Snapshot new) where
  pub construct_refused : (r : Refusal) → x ≡ Err r → Err r ≡ construct_of old new serial (length o)
  unfolding construct_of
  construct_refused r d = rw (← e, d)

  module _ (y : x ≡ Ok tt) where
    inputs : Inputs Snapshot old Snapshot new
    inputs = admitted_inputs Snapshot old Snapshot new (sym e ∙ y)

    module _ (w : Option Counts) (f : w ≡ output_of Delta (merged_as Withdrawn old Announced new) (length o)) where
      pub construct_room : w ≡ None → Err refusal.NoRoom ≡ construct_of old new serial (length o)
      unfolding construct_of
      construct_room d =
          let h = delta_room (merged_as Withdrawn old Announced new) (difference_of old new) (difference_is old new inputs) (length o) (sym d ∙ f) in
          rw (← e, y, ne_eqb (length (difference_of old new)) 0 (λ z. omega arith), lt-leb (length (difference_of old new)) (length o) h)

      module _ (c : Counts) (d : w ≡ Some c) where
        made : (length (difference_of old new) ≤ length o) × (c ≡ counts_of (difference_of old new))
        made = delta_written (merged_as Withdrawn old Announced new) (difference_of old new) (difference_is old new inputs) (length o) c (sym d ∙ f)

        pub construct_same : c.len ≡ 0 → (Ok None) ≡ construct_of old new serial (length o)
        unfolding construct_of
        construct_same z =
            let k : length (difference_of old new) ≡ 0 = sym (ap (λ (n : Counts). n.len) made.1) ∙ z in
            rw (← e, y, eq-eqb (length (difference_of old new)) 0 k)

        pub construct_made : (s : Serial) → (c.len ≡ 0 → ⊥) → s ≡ next_of serial → Ok (Some (s, c)) ≡ construct_of old new serial (length o)
        unfolding construct_of
        construct_made s z q =
            let k : length (difference_of old new) ≡ 0 → ⊥ = λ h. z (ap (λ (n : Counts). n.len) made.1 ∙ h) in
            rw (← e, y, ne_eqb (length (difference_of old new)) 0 k, le-leb (length (difference_of old new)) (length o) made.0)
            (ap₂ (λ s c. Ok (Some (s, c))) q made.1)

module _ (old new o : Bytes) (x : Admitted) (e : x ≡ admit_of Snapshot old Snapshot new) where
  pub construct_runs : x ≡ Ok tt → Runs Withdrawn old Announced new
  construct_runs y = runs_of Withdrawn old Announced new (admitted_inputs Snapshot old Snapshot new (sym e ∙ y))

  pub construct_left : (r : Refusal) → x ≡ Err r → o ≡ construct_out old new o
  unfolding construct_out
  construct_left r d = rw (← e, d)

  pub construct_out_lem : (p : Bytes) → x ≡ Ok tt → p ≡ whole_out Delta (merged_as Withdrawn old Announced new) o → p ≡ construct_out old new o
  unfolding construct_out
  construct_out_lem p y q =
      rw (← e, y) (q ∙ delta_out (merged_as Withdrawn old Announced new) (difference_of old new) (difference_is old new (admitted_inputs Snapshot old Snapshot new (sym e ∙ y))) o)

pub ruleset constructing = (construct_runs, construct_refused, construct_left, construct_room, construct_same, construct_made, construct_out_lem)

-- ---- merge

module _ (earlier later : Bytes) (serial : Serial) (o : Bytes) (x : Admitted) (e : x ≡ admit_of Delta earlier Delta later) where
  pub merge_refused : (r : Refusal) → x ≡ Err r → Err r ≡ merge_of earlier later serial (length o)
  unfolding merge_of
  merge_refused r d = rw (← e, d)

  module _ (y : x ≡ Ok tt) (w : Option Counts) (f : w ≡ output_of Delta (merged_as Changes earlier Changes later) (length o)) where
    pub merge_room : w ≡ None → Err refusal.NoRoom ≡ merge_of earlier later serial (length o)
    unfolding merge_of
    merge_room d =
        let h = delta_room (merged_as Changes earlier Changes later) (merged_of earlier later) (merged_is earlier later) (length o) (sym d ∙ f) in
        rw (← e, y, lt-leb (length (merged_of earlier later)) (length o) h)

    pub merge_made : (c : Counts) → w ≡ Some c → Ok (serial, c) ≡ merge_of earlier later serial (length o)
    unfolding merge_of
    merge_made c d =
        let m = delta_written (merged_as Changes earlier Changes later) (merged_of earlier later) (merged_is earlier later) (length o) c (sym d ∙ f) in
        rw (← e, y, le-leb (length (merged_of earlier later)) (length o) m.0) (ap (λ c. Ok (serial, c)) m.1)

module _ (earlier later o : Bytes) (x : Admitted) (e : x ≡ admit_of Delta earlier Delta later) where
  pub merge_runs : x ≡ Ok tt → Runs Changes earlier Changes later
  merge_runs y = runs_of Changes earlier Changes later (admitted_inputs Delta earlier Delta later (sym e ∙ y))

  pub merge_left : (r : Refusal) → x ≡ Err r → o ≡ merge_out earlier later o
  unfolding merge_out
  merge_left r d = rw (← e, d)

  pub merge_out_lem : (p : Bytes) → x ≡ Ok tt → p ≡ whole_out Delta (merged_as Changes earlier Changes later) o → p ≡ merge_out earlier later o
  unfolding merge_out
  merge_out_lem p y q = rw (← e, y) (q ∙ delta_out (merged_as Changes earlier Changes later) (merged_of earlier later) (merged_is earlier later) o)

pub ruleset merging = (merge_runs, merge_refused, merge_left, merge_room, merge_made, merge_out_lem)

-- ---- apply

module _ (s d o : Bytes) (x : Admitted) (e : x ≡ admit_of Snapshot s Delta d) where
  pub apply_refused : (r : Refusal) → x ≡ Err r → Err r ≡ apply_of s d (length o)
  unfolding apply_of
  apply_refused r q = rw (← e, q)

  pub apply_left : (r : Refusal) → x ≡ Err r → o ≡ apply_out s d o
  unfolding apply_out
  apply_left r q = rw (← e, q)

  module _ (y : x ≡ Ok tt) (t : Option ℕ) (g : t ≡ fit_of s d) where
    pub apply_misfit : (at : ℕ) → t ≡ Some at → Err (refusal.CannotApply at) ≡ apply_of s d (length o)
    unfolding apply_of
    apply_misfit at q = rw (← e, y, ← g, q)

    pub apply_misfit_left : (at : ℕ) → t ≡ Some at → o ≡ apply_out s d o
    unfolding apply_out
    apply_misfit_left at q = rw (← e, y, ← g, q)

    module _ (z : t ≡ None) where
      is : writes Snapshot (merged_as Announced s Changes d) ≡ applied_of s d
      is = applied_is s d (admitted_inputs Snapshot s Delta d (sym e ∙ y)) (sym g ∙ z)

      module _ (w : Option Counts) (f : w ≡ output_of Snapshot (merged_as Announced s Changes d) (length o)) where
        pub apply_room : w ≡ None → Err refusal.NoRoom ≡ apply_of s d (length o)
        unfolding apply_of
        apply_room q =
            let h : length o < length (applied_of s d) = rw (← is) (no_room Snapshot (merged_as Announced s Changes d) (length o) (sym q ∙ f)) in
            rw (← e, y, ← g, z, lt-leb (length (applied_of s d)) (length o) h)

        pub apply_made : (c : Counts) → w ≡ Some c → Ok c.len ≡ apply_of s d (length o)
        unfolding apply_of
        apply_made c q =
            let m = written Snapshot (merged_as Announced s Changes d) (length o) c (sym q ∙ f) in
            let h : length (applied_of s d) ≤ length o = rw (← is) m.0 in
            let l : c.len ≡ length (applied_of s d) = ap (λ (n : Counts). n.len) m.1 ∙ zero-add (length (writes Snapshot (merged_as Announced s Changes d))) ∙ ap length is in
            rw (← e, y, ← g, z, le-leb (length (applied_of s d)) (length o) h) (ap Ok l)

      pub apply_out_lem : (p : Bytes) → p ≡ whole_out Snapshot (merged_as Announced s Changes d) o → p ≡ apply_out s d o
      unfolding apply_out
      apply_out_lem p q = rw (← e, y, ← g, z) (q ∙ ap (λ (b : Bytes). out_after (Ok tt) b o) is)

module _ (s d : Bytes) (x : Admitted) (e : x ≡ admit_of Snapshot s Delta d) (y : x ≡ Ok tt) where
  pub apply_runs : Runs Announced s Changes d
  apply_runs = runs_of Announced s Changes d (admitted_inputs Snapshot s Delta d (sym e ∙ y))

  pub apply_snapshot : Ready Announced s 0
  apply_snapshot = apply_runs.good_a

  pub apply_delta : Ready Changes d 0
  apply_delta = apply_runs.good_b

pub ruleset applying = (apply_runs, apply_snapshot, apply_delta, apply_refused, apply_left, apply_misfit, apply_misfit_left, apply_room, apply_made, apply_out_lem)
