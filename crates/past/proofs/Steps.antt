-- Which updates of any history do what.
use Prim.Native.Nat.{ℕ, ◌≤◌, ◌<◌}
use mathlib.Core.Path.{◌≡◌, refl, sym, ◌∙◌}
use mathlib.Core.List.{map}
use mathlib.Core.Bool.{Bool, true, false, cond, ◌&&◌}
use mathlib.Core.Logic.{◌↔◌, ◌⊎◌, inl, inr}
use lib.Dec.{leb, eqb}
use lib.ListN.{length}
use borrow.Author.Tests.{leb-true, leb-false, le-leb, lt-leb, eqb-true, eqb-false, eq-eqb, ne_eqb}
use Rattle.order.proofs.Never.{never}
use Rattle.body.specs.declared.tag.Form.{Form}
use Rattle.body.specs.declared.tag.Form.TheVariants.{Snapshot}
use Rattle.field.specs.Verdict.{verdict}
use Rattle.payload.specs.Content.{Bytes}
use Rattle.payload.specs.Limit.{limit}
use Rattle.delta.specs.declared.refusal.Refusal.{Refusal}
use Rattle.delta.specs.declared.refusal.Refusal.TheVariants.{IllFormed, StoreFull, TooLong}
use Rattle.delta.specs.declared.refusal.Refusal.TheVariants as refusal
use Rattle.delta.specs.Admission.{verdict_admitted, and_then, admit_one_of}
use Rattle.item.specs.declared.sink.Counts.{Counts}
use Rattle.delta.specs.Answer.{difference_of, counts_of}
use Rattle.past.specs.declared.state.History.{History}
use Rattle.past.specs.Store.{total, held_snapshot}
use Rattle.past.specs.WellFormed.{well_formed}
use Rattle.past.specs.Update.{Step, refuse, first, unchanged, add, deltas_with, admitted_step, step_for, update_at, update_of}
use Rattle.delta.specs.Admission.{Admitted}
use Rattle.std.specs.Prelude.{Err, Ok}
use Rattle.field.specs.declared.verdict.Flaw.TheVariants as flaw
use Rattle.field.specs.Verdict.{Verdict}
use Rattle.past.specs.declared.update.Update.TheVariants as outcome

-- two steps or answers that differ: from them anything follows

-- an admitted input is good
pub admitted_fine : (form : Form) (s : Bytes) → admit_one_of form s ≡ Ok tt → verdict form s ≡ Ok tt
admitted_fine form s = go (leb (length s) (limit form)) (verdict form s)
  where
    go : (t : Bool) (v : Verdict) → and_then (cond t (Ok tt) (Err (TooLong 1))) (verdict_admitted 1 v) ≡ Ok tt → v ≡ Ok tt
    go true (Ok tt) e = refl
    go true (Err (flaw.Bad at)) e = never cc
    go true (Err (flaw.Senseless at)) e = never cc
    go true (Err (flaw.NotAbove at)) e = never cc
    go false v e = never cc

-- and within its limit
pub admitted_short : (form : Form) (s : Bytes) → admit_one_of form s ≡ Ok tt → length s ≤ limit form
admitted_short form s = go (leb (length s) (limit form)) refl
  where
    go : (t : Bool) → leb (length s) (limit form) ≡ t → and_then (cond t (Ok tt) (Err (TooLong 1))) (verdict_admitted 1 (verdict form s)) ≡ Ok tt → length s ≤ limit form
    go true p e = leb-true (length s) (limit form) p
    go false p e = never cc

pub fine_admitted : (form : Form) (s : Bytes) → length s ≤ limit form → verdict form s ≡ Ok tt → admit_one_of form s ≡ Ok tt
fine_admitted form s l e = rw (le-leb (length s) (limit form) l, e)

-- an input is refused with 10 exactly if it is over its limit
pub input_ten : (form : Form) (s : Bytes) → admit_one_of form s ≡ Err (TooLong 1) ↔ limit form < length s
input_ten form s = (go (leb (length s) (limit form)) refl (verdict form s), λ l. rw (lt-leb (length s) (limit form) l))
  where
    go : (t : Bool) → leb (length s) (limit form) ≡ t → (v : Verdict) → and_then (cond t (Ok tt) (Err (TooLong 1))) (verdict_admitted 1 v) ≡ Err (TooLong 1) → limit form < length s
    go true p (Ok tt) e = never cc
    go true p (Err (flaw.Bad at)) e = never cc
    go true p (Err (flaw.Senseless at)) e = never cc
    go true p (Err (flaw.NotAbove at)) e = never cc
    go false p v e = leb-false (length s) (limit form) p

-- else with 1, 12 or 2 as the check says
pub input_one : (form : Form) (s : Bytes) (at : ℕ) → admit_one_of form s ≡ Err (refusal.Bad 1 at) ↔ (length s ≤ limit form) × (verdict form s ≡ Err (flaw.Bad at))
input_one form s at = (go (leb (length s) (limit form)) refl (verdict form s), λ e. rw (le-leb (length s) (limit form) e.0, e.1))
  where
    go : (t : Bool) → leb (length s) (limit form) ≡ t → (v : Verdict) → and_then (cond t (Ok tt) (Err (TooLong 1))) (verdict_admitted 1 v) ≡ Err (refusal.Bad 1 at) →
        (length s ≤ limit form) × (v ≡ Err (flaw.Bad at))
    go true p (Ok tt) e = never cc
    go true p (Err (flaw.Bad at)) e = (leb-true (length s) (limit form) p, cc)
    go true p (Err (flaw.Senseless at)) e = never cc
    go true p (Err (flaw.NotAbove at)) e = never cc
    go false p v e = never cc

pub input_twelve : (form : Form) (s : Bytes) (at : ℕ) → admit_one_of form s ≡ Err (refusal.Senseless 1 at) ↔ (length s ≤ limit form) × (verdict form s ≡ Err (flaw.Senseless at))
input_twelve form s at = (go (leb (length s) (limit form)) refl (verdict form s), λ e. rw (le-leb (length s) (limit form) e.0, e.1))
  where
    go : (t : Bool) → leb (length s) (limit form) ≡ t → (v : Verdict) → and_then (cond t (Ok tt) (Err (TooLong 1))) (verdict_admitted 1 v) ≡ Err (refusal.Senseless 1 at) →
        (length s ≤ limit form) × (v ≡ Err (flaw.Senseless at))
    go true p (Ok tt) e = never cc
    go true p (Err (flaw.Bad at)) e = never cc
    go true p (Err (flaw.Senseless at)) e = (leb-true (length s) (limit form) p, cc)
    go true p (Err (flaw.NotAbove at)) e = never cc
    go false p v e = never cc

pub input_two : (form : Form) (s : Bytes) (at : ℕ) → admit_one_of form s ≡ Err (refusal.NotAbove 1 at) ↔ (length s ≤ limit form) × (verdict form s ≡ Err (flaw.NotAbove at))
input_two form s at = (go (leb (length s) (limit form)) refl (verdict form s), λ e. rw (le-leb (length s) (limit form) e.0, e.1))
  where
    go : (t : Bool) → leb (length s) (limit form) ≡ t → (v : Verdict) → and_then (cond t (Ok tt) (Err (TooLong 1))) (verdict_admitted 1 v) ≡ Err (refusal.NotAbove 1 at) →
        (length s ≤ limit form) × (v ≡ Err (flaw.NotAbove at))
    go true p (Ok tt) e = never cc
    go true p (Err (flaw.Bad at)) e = never cc
    go true p (Err (flaw.Senseless at)) e = never cc
    go true p (Err (flaw.NotAbove at)) e = (leb-true (length s) (limit form) p, cc)
    go false p v e = never cc

-- no refusal of an input is 7 or 9
refusal_kind : (form : Form) (s : Bytes) (r : Refusal) → admit_one_of form s ≡ Err r → ¬ (r ≡ IllFormed) × ¬ (r ≡ StoreFull)
refusal_kind form s r = go (leb (length s) (limit form)) (verdict form s)
  where
    go : (t : Bool) (v : Verdict) → and_then (cond t (Ok tt) (Err (TooLong 1))) (verdict_admitted 1 v) ≡ Err r → ¬ (r ≡ IllFormed) × ¬ (r ≡ StoreFull)
    go true (Ok tt) e = never cc
    go true (Err (flaw.Bad at)) e = (λ q. never cc, λ q. never cc)
    go true (Err (flaw.Senseless at)) e = (λ q. never cc, λ q. never cc)
    go true (Err (flaw.NotAbove at)) e = (λ q. never cc, λ q. never cc)
    go false v e = (λ q. never cc, λ q. never cc)

-- the step by the outcome of the tests: well formed, admitted, active, the empty difference, room for the snapshot, room for the deltas
abbrev step_by : Bool → Admitted → Bool → Bool → Bool → Bool → Bytes → Step
step_by false a b z l m d = refuse IllFormed
step_by true (Err r) b z l m d = refuse r
step_by true (Ok tt) false z true m d = first
step_by true (Ok tt) false z false m d = refuse StoreFull
step_by true (Ok tt) true true l m d = unchanged
step_by true (Ok tt) true false true true d = add d
step_by true (Ok tt) true false true false d = refuse StoreFull
step_by true (Ok tt) true false false m d = refuse StoreFull

-- what the tests have found where the update adds a delta, is the first, changes nothing, or is refused with 7
by_add : (t : Bool) (a : Admitted) (b z l m : Bool) (c d : Bytes) → step_by t a b z l m c ≡ add d →
    (a ≡ Ok tt) × (b ≡ true) × (l ≡ true) × (m ≡ true) × (d ≡ c) × (z ≡ false)
by_add false a b z l m c d e = never cc
by_add true (Err r) b z l m c d e = never cc
by_add true (Ok tt) false z true m c d e = never cc
by_add true (Ok tt) false z false m c d e = never cc
by_add true (Ok tt) true true l m c d e = never cc
by_add true (Ok tt) true false true true c d e = (refl, refl, refl, refl, cc, refl)
by_add true (Ok tt) true false true false c d e = never cc
by_add true (Ok tt) true false false m c d e = never cc

by_first : (t : Bool) (a : Admitted) (b z l m : Bool) (c : Bytes) → step_by t a b z l m c ≡ first → (a ≡ Ok tt) × (b ≡ false) × (l ≡ true)
by_first false a b z l m c e = never cc
by_first true (Err r) b z l m c e = never cc
by_first true (Ok tt) false z true m c e = (refl, refl, refl)
by_first true (Ok tt) false z false m c e = never cc
by_first true (Ok tt) true true l m c e = never cc
by_first true (Ok tt) true false true true c e = never cc
by_first true (Ok tt) true false true false c e = never cc
by_first true (Ok tt) true false false m c e = never cc

by_unchanged : (t : Bool) (a : Admitted) (b z l m : Bool) (c : Bytes) → step_by t a b z l m c ≡ unchanged → (a ≡ Ok tt) × (z ≡ true) × (b ≡ true)
by_unchanged false a b z l m c e = never cc
by_unchanged true (Err r) b z l m c e = never cc
by_unchanged true (Ok tt) false z true m c e = never cc
by_unchanged true (Ok tt) false z false m c e = never cc
by_unchanged true (Ok tt) true true l m c e = (refl, refl, refl)
by_unchanged true (Ok tt) true false true true c e = never cc
by_unchanged true (Ok tt) true false true false c e = never cc
by_unchanged true (Ok tt) true false false m c e = never cc

by_seven : (a : Admitted) (b z l m : Bool) (c : Bytes) → step_by true a b z l m c ≡ refuse IllFormed → a ≡ Err IllFormed
by_seven (Err r) b z l m c e = cc
by_seven (Ok tt) false z true m c e = never cc
by_seven (Ok tt) false z false m c e = never cc
by_seven (Ok tt) true true l m c e = never cc
by_seven (Ok tt) true false true true c e = never cc
by_seven (Ok tt) true false true false c e = never cc
by_seven (Ok tt) true false false m c e = never cc

-- where 9 comes, the input is good, it changes something, and a store was too short
by_nine : (a : Admitted) (b z l m : Bool) (c : Bytes) → ¬ (a ≡ Err StoreFull) → step_by true a b z l m c ≡ refuse StoreFull →
    (a ≡ Ok tt) × (b ≡ true → z ≡ false) × ((l ≡ false) ⊎ ((b ≡ true) × (m ≡ false)))
by_nine (Err r) b z l m c n e = absurd (n (cc))
by_nine (Ok tt) false z true m c n e = never cc
by_nine (Ok tt) false z false m c n e = (refl, λ q. never cc, inl refl)
by_nine (Ok tt) true true l m c n e = never cc
by_nine (Ok tt) true false true true c n e = never cc
by_nine (Ok tt) true false true false c n e = (refl, λ q. refl, inr (refl, refl))
by_nine (Ok tt) true false false m c n e = (refl, λ q. refl, inl refl)

-- any other refusal is one of the input
by_input : (a : Admitted) (b z l m : Bool) (c : Bytes) (r : Refusal) → ¬ (r ≡ StoreFull) → step_by true a b z l m c ≡ refuse r → a ≡ Err r
by_input (Err q) b z l m c r n e = cc
by_input (Ok tt) false z true m c r n e = never cc
by_input (Ok tt) false z false m c r n e = absurd (n (cc))
by_input (Ok tt) true true l m c r n e = never cc
by_input (Ok tt) true false true true c r n e = never cc
by_input (Ok tt) true false true false c r n e = absurd (n (cc))
by_input (Ok tt) true false false m c r n e = absurd (n (cc))

-- what an update that adds the delta d has found
pub record Adds (h : History) (new snapshots deltas d : Bytes) : Type 0 where
  pub active : h.active ≡ true
  pub fine : verdict Snapshot new ≡ Ok tt
  pub difference : d ≡ difference_of (held_snapshot h snapshots) new
  pub short : length new ≤ limit Snapshot
  pub other : ¬ (length d ≡ 0)
  pub fits : length new ≤ length snapshots
  pub room : total (map length (deltas_with h deltas d)) ≤ length deltas

-- what an update that is the first has found
pub record Begins (h : History) (new snapshots : Bytes) : Type 0 where
  pub active : h.active ≡ false
  pub fine : verdict Snapshot new ≡ Ok tt
  pub short : length new ≤ limit Snapshot
  pub fits : length new ≤ length snapshots

-- what an update that is refused with 9 has found
pub record Fills (h : History) (new snapshots deltas : Bytes) : Type 0 where
  pub fine : verdict Snapshot new ≡ Ok tt
  pub short : length new ≤ limit Snapshot
  pub other : h.active ≡ true → ¬ (length (difference_of (held_snapshot h snapshots) new) ≡ 0)
  pub full : (length snapshots < length new)
      ⊎ ((h.active ≡ true) × (length deltas < total (map length (deltas_with h deltas (difference_of (held_snapshot h snapshots) new)))))

module _ (h : History) (new snapshots deltas : Bytes) where
  abbrev c : Bytes
  c = difference_of (held_snapshot h snapshots) new

  -- the outcomes of the tests
  abbrev formed : Bool
  formed = well_formed h snapshots deltas

  abbrev admitted : Admitted
  admitted = admit_one_of Snapshot new

  abbrev same : Bool
  same = eqb (length c) 0

  abbrev fits : Bool
  fits = leb (length new) (length snapshots)

  abbrev room : Bool
  room = leb (total (map length (deltas_with h deltas c))) (length deltas)

  step_by_lem : step_for h new snapshots deltas ≡ step_by formed admitted h.active same fits room c
  unfolding step_for
  step_by_lem = go formed admitted
    where
      yes_by : (b z l m : Bool) → cond b (cond z unchanged (cond (l && m) (add c) (refuse StoreFull))) (cond l first (refuse StoreFull)) ≡ step_by true (Ok tt) b z l m c
      yes_by false z true m = refl
      yes_by false z false m = refl
      yes_by true true l m = refl
      yes_by true false true true = refl
      yes_by true false true false = refl
      yes_by true false false m = refl

      go : (t : Bool) (a : Admitted) → cond t (admitted_step a h new snapshots deltas) (refuse IllFormed) ≡ step_by t a h.active same fits room c
      go false a = refl
      go true (Err r) = refl
      go true (Ok tt) = yes_by h.active same fits room

  pub step_add : (d : Bytes) → step_for h new snapshots deltas ≡ add d → Adds h new snapshots deltas d
  step_add d e =
      let f = by_add formed admitted h.active same fits room c d (sym step_by_lem ∙ e) in
      record {
        active = f.1;
        fine = admitted_fine Snapshot new f.0;
        difference = f.4;
        short = admitted_short Snapshot new f.0;
        other = rw f.4 (eqb-false (length c) 0 f.5);
        fits = leb-true (length new) (length snapshots) f.2;
        room = rw f.4 (leb-true (total (map length (deltas_with h deltas c))) (length deltas) f.3);
      }

  pub step_first : step_for h new snapshots deltas ≡ first → Begins h new snapshots
  step_first e =
      let f = by_first formed admitted h.active same fits room c (sym step_by_lem ∙ e) in
      record { active = f.1; fine = admitted_fine Snapshot new f.0; short = admitted_short Snapshot new f.0; fits = leb-true (length new) (length snapshots) f.2 }

  -- an update that changes nothing has found a good snapshot with the empty difference
  pub step_unchanged : step_for h new snapshots deltas ≡ unchanged →
      (verdict Snapshot new ≡ Ok tt) × (length (difference_of (held_snapshot h snapshots) new) ≡ 0) × (h.active ≡ true)
  step_unchanged e =
      let f = by_unchanged formed admitted h.active same fits room c (sym step_by_lem ∙ e) in
      (admitted_fine Snapshot new f.0, eqb-true (length c) 0 f.1, f.2)

  -- refusal 7 comes only where the history is not well formed
  pub step_seven : well_formed h snapshots deltas ≡ true → ¬ (step_for h new snapshots deltas ≡ refuse IllFormed)
  step_seven w e =
      let q : step_by true admitted h.active same fits room c ≡ refuse IllFormed = rw w at (sym step_by_lem ∙ e) in
      (refusal_kind Snapshot new IllFormed (by_seven admitted h.active same fits room c q)).0 refl

  -- the answer is a refusal exactly if the step is
  pub refused_step : (r : Refusal) → (update_of h new snapshots deltas).answer ≡ Err r ↔ step_for h new snapshots deltas ≡ refuse r
  unfolding update_of
  refused_step r = (go (step_for h new snapshots deltas), λ e. rw e)
    where
      go : (s : Step) → (update_at s h new deltas).answer ≡ Err r → s ≡ refuse r
      go (refuse q) e = cc
      go first e = never cc
      go unchanged e = never cc
      go (add d) e = never cc

  -- "first" exactly if the step is the first
  pub first_step_lem : (update_of h new snapshots deltas).answer ≡ Ok outcome.First ↔ step_for h new snapshots deltas ≡ first
  unfolding update_of
  first_step_lem = (go (step_for h new snapshots deltas), λ e. rw e)
    where
      go : (s : Step) → (update_at s h new deltas).answer ≡ Ok outcome.First → s ≡ first
      go (refuse q) e = never cc
      go first e = refl
      go unchanged e = never cc
      go (add d) e = never cc

  -- "unchanged" exactly if the step changes nothing
  pub same_step : (update_of h new snapshots deltas).answer ≡ Ok outcome.Unchanged ↔ step_for h new snapshots deltas ≡ unchanged
  unfolding update_of
  same_step = (go (step_for h new snapshots deltas), λ e. rw e)
    where
      go : (s : Step) → (update_at s h new deltas).answer ≡ Ok outcome.Unchanged → s ≡ unchanged
      go (refuse q) e = never cc
      go first e = never cc
      go unchanged e = refl
      go (add d) e = never cc

  -- "changed" exactly if the step adds a delta with these counts
  pub changed_step : (k : Counts) → (update_of h new snapshots deltas).answer ≡ Ok (outcome.Changed k) → (d : Bytes) × (step_for h new snapshots deltas ≡ add d) × (k ≡ counts_of d)
  unfolding update_of
  changed_step k = go (step_for h new snapshots deltas)
    where
      go : (s : Step) → (update_at s h new deltas).answer ≡ Ok (outcome.Changed k) → (d : Bytes) × (s ≡ add d) × (k ≡ counts_of d)
      go (refuse q) e = never cc
      go first e = never cc
      go unchanged e = never cc
      go (add d) e = (d, refl, cc)

  pub step_changed : (d : Bytes) → step_for h new snapshots deltas ≡ add d → (update_of h new snapshots deltas).answer ≡ Ok (outcome.Changed (counts_of d))
  unfolding update_of
  step_changed d e = rw e

  module _ (w : well_formed h snapshots deltas ≡ true) where
    -- a refusal other than 9 is exactly one of the input
    pub input_refused : (r : Refusal) → ¬ (r ≡ StoreFull) → (update_of h new snapshots deltas).answer ≡ Err r ↔ admit_one_of Snapshot new ≡ Err r
    input_refused r n = (
      λ e. by_input admitted h.active same fits room c r n (rw w at (sym step_by_lem ∙ (refused_step r).0 e)),
      λ e. (refused_step r).1 (step_by_lem ∙ rw (w, e)),
    )

    pub step_nine : step_for h new snapshots deltas ≡ refuse StoreFull → Fills h new snapshots deltas
    step_nine e =
        let n : ¬ (admitted ≡ Err StoreFull) = λ q. (refusal_kind Snapshot new StoreFull q).1 refl in
        let f = by_nine admitted h.active same fits room c n (rw w at (sym step_by_lem ∙ e)) in
        record {
          fine = admitted_fine Snapshot new f.0;
          short = admitted_short Snapshot new f.0;
          other = λ a. eqb-false (length c) 0 (f.1 a);
          full = past f.2;
        }
      where
        past : (fits ≡ false) ⊎ ((h.active ≡ true) × (room ≡ false)) → (length snapshots < length new) ⊎ ((h.active ≡ true) × (length deltas < total (map length (deltas_with h deltas c))))
        past (inl f) = inl (leb-false (length new) (length snapshots) f)
        past (inr f) = inr (f.0, leb-false (total (map length (deltas_with h deltas c))) (length deltas) f.1)

  module _ (w : well_formed h snapshots deltas ≡ true) (y : admit_one_of Snapshot new ≡ Ok tt) where
    pub unchanged_step : h.active ≡ true → length (difference_of (held_snapshot h snapshots) new) ≡ 0 → step_for h new snapshots deltas ≡ unchanged
    unchanged_step a z = step_by_lem ∙ rw (w, y, a, eq-eqb (length c) 0 z)

    pub begins_step : h.active ≡ false → length new ≤ length snapshots → step_for h new snapshots deltas ≡ first
    begins_step a l = step_by_lem ∙ rw (w, y, a, le-leb (length new) (length snapshots) l)

    -- the first snapshot is refused with 9 if it is longer than its store
    pub first_nine : h.active ≡ false → length snapshots < length new → step_for h new snapshots deltas ≡ refuse StoreFull
    first_nine a l = step_by_lem ∙ rw (w, y, a, lt-leb (length new) (length snapshots) l)

    module _ (a : h.active ≡ true) (n : ¬ (length (difference_of (held_snapshot h snapshots) new) ≡ 0)) where
      pub adds_step : length new ≤ length snapshots → total (map length (deltas_with h deltas (difference_of (held_snapshot h snapshots) new))) ≤ length deltas →
          step_for h new snapshots deltas ≡ add (difference_of (held_snapshot h snapshots) new)
      adds_step l m =
          step_by_lem ∙ rw (w, y, a, ne_eqb (length c) 0 n, le-leb (length new) (length snapshots) l, le-leb (total (map length (deltas_with h deltas c))) (length deltas) m)

      -- a later one that changes something, if it is longer than its store or the deltas that would then be held
      -- sum to more than the delta store's length
      pub later_nine : ¬ ((length new ≤ length snapshots) × (total (map length (deltas_with h deltas (difference_of (held_snapshot h snapshots) new))) ≤ length deltas)) →
          step_for h new snapshots deltas ≡ refuse StoreFull
      later_nine k = step_by_lem ∙ rw (w, y, a, ne_eqb (length c) 0 n) (go fits refl room refl)
        where
          go : (l : Bool) → fits ≡ l → (m : Bool) → room ≡ m → step_by true (Ok tt) true false l m c ≡ refuse StoreFull
          go true p true q = absurd (k (leb-true (length new) (length snapshots) p, leb-true (total (map length (deltas_with h deltas c))) (length deltas) q))
          go true p false q = refl
          go false p m q = refl
