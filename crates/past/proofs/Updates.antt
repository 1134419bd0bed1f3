-- Every update of a run is answered as document 01 says.
use Prim.Native.Nat.{ℕ, ◌-◌, ◌≤◌, ◌<◌}
use mathlib.Core.Path.{◌≡◌, refl, sym, ap, ◌∙◌}
use mathlib.Core.List.{List, [], ◌∷◌, map}
use mathlib.Core.Option.{none, some}
use mathlib.Core.Bool.{Bool, true, false}
use mathlib.Core.Logic.{◌↔◌, ◌⊎◌, inl, inr}
use native.Mathlib.Omega.{arith}
use lib.Dec.{leb, eqb}
use lib.ListN.{length, length-take}
use lib.Seq.{drop-nil}
use borrow.Author.Tests.{leb-true, leb-false, eqb-true, eqb-false}
use Rattle.order.proofs.Never.{never}
use Rattle.change.specs.History.{last_n}
use Rattle.change.proofs.Chain.{all_newest}
use Rattle.serial.specs.declared.Serial.{Serial}
use Rattle.number.specs.Bytes.{AllBytes}
use Rattle.body.specs.declared.tag.Form.TheVariants.{Snapshot}
use Rattle.field.specs.Verdict.{verdict}
use Rattle.payload.specs.Content.{Bytes}
use Rattle.payload.specs.Limit.{limit}
use Rattle.item.specs.declared.sink.Counts.{Counts}
use Rattle.delta.specs.declared.refusal.Refusal.{Refusal}
use Rattle.delta.specs.declared.refusal.Refusal.TheVariants as refusals
use Rattle.delta.specs.Admission.{admit_one_of}
use Rattle.delta.specs.Answer.{difference_of, counts_of}
use Rattle.delta.specs.Demand.{GoodSnapshot, Acceptable}
use Rattle.delta.proofs.Differences.{difference_empty, difference_self}
use Rattle.delta.proofs.Demand.{no_bytes}
use Rattle.past.specs.Store.{total}
use Rattle.past.specs.WellFormed.{well_formed}
use Rattle.past.specs.Update.{Step, refuse, first, unchanged, add, deltas_with, step_for, update_of}
use Rattle.past.specs.Run.{World, update, updated, reply_of, refused_update, numbered, refused_as, refusal}
use Rattle.past.specs.Promise.{current, differences_in, Room, Again, Updates}
use Rattle.past.proofs.Steps.{fine_admitted, input_ten, input_one, input_twelve, input_two, step_add, step_first, step_unchanged, refused_step, first_step_lem, same_step, changed_step, step_changed, input_refused, step_nine, unchanged_step, begins_step, first_nine, adds_step, later_nine}
use Rattle.past.proofs.Invariant.{Waits, Holds, Inv, waits_formed, holds_formed, would_hold}
use Rattle.past.proofs.Numbers.{through, update_refused}
use Rattle.std.specs.Prelude.{Err, Ok, Result}
use Rattle.field.specs.declared.verdict.Flaw.TheVariants as flaw
use Rattle.past.specs.declared.update.Update.TheVariants as outcome
use Rattle.past.specs.declared.update.Update.{Update}

-- two answers that differ: from them anything follows

-- a list with a first member is not empty
full_list : {A X : Type 0} {x : A} {l : List A} → x ∷ l ≡ [] → X
full_list e = never cc

-- a list that is not longer is not longer, and else it is
short_or_long : (m n : ℕ) → ¬ (m ≤ n) → n < m
short_or_long m n k = go (leb m n) refl
  where
    go : (t : Bool) → leb m n ≡ t → n < m
    go true e = absurd (k (leb-true m n e))
    go false e = leb-false m n e

module _ (w : World) (new : Bytes) where
  abbrev answer : Result Update Refusal
  answer = (update_of w.history new w.snapshots w.deltas).answer

  abbrev step : Step
  step = step_for w.history new w.snapshots w.deltas

  abbrev c : Bytes
  c = difference_of (current w) new

  answered : (a : Result Update Refusal) → reply_of w (update new) ≡ updated a ↔ answer ≡ a
  answered a = (λ e. cc, λ e. ap updated e)

  module _ (formed : well_formed w.history w.snapshots w.deltas ≡ true) where
    of_input : (r : Refusal) → ¬ (r ≡ refusals.StoreFull) → (numbered (refused_update answer) ≡ numbered (some r)) ↔ admit_one_of Snapshot new ≡ Err r
    of_input r n = through (update_refused answer r) (input_refused w.history new w.snapshots w.deltas formed r n)

    ten : refused_as (reply_of w (update new)) ≡ refusal 10 1 0 ↔ limit Snapshot < length new
    ten = through (of_input (refusals.TooLong 1) (λ e. never cc)) (input_ten Snapshot new)

    one : (at : ℕ) → refused_as (reply_of w (update new)) ≡ refusal 1 1 at ↔ (length new ≤ limit Snapshot) × (verdict Snapshot new ≡ Err (flaw.Bad at))
    one at = through (of_input (refusals.Bad 1 at) (λ e. never cc)) (input_one Snapshot new at)

    twelve : (at : ℕ) → refused_as (reply_of w (update new)) ≡ refusal 12 1 at ↔ (length new ≤ limit Snapshot) × (verdict Snapshot new ≡ Err (flaw.Senseless at))
    twelve at = through (of_input (refusals.Senseless 1 at) (λ e. never cc)) (input_twelve Snapshot new at)

    two : (at : ℕ) → refused_as (reply_of w (update new)) ≡ refusal 2 1 at ↔ (length new ≤ limit Snapshot) × (verdict Snapshot new ≡ Err (flaw.NotAbove at))
    two at = through (of_input (refusals.NotAbove 1 at) (λ e. never cc)) (input_two Snapshot new at)

  -- 9 exactly if the step says so
  nine_step : refused_as (reply_of w (update new)) ≡ refusal 9 0 0 ↔ step ≡ refuse refusals.StoreFull
  nine_step = through (update_refused answer refusals.StoreFull) (refused_step w.history new w.snapshots w.deltas refusals.StoreFull)

  acceptable_admitted : Acceptable new → admit_one_of Snapshot new ≡ Ok tt
  acceptable_admitted a = fine_admitted Snapshot new a.short a.good.fine

module _ (session keep : ℕ) (start : Serial) (w : World) (new : Bytes) (octets : AllBytes new) where
  -- ---- before the first snapshot

  module _ (i : Waits session keep start w) where
    -- no delta would be held
    first_room : length new ≤ length w.snapshots → Room keep w [] new
    first_room l =
        let e : last_n keep (differences_in (new ∷ [])) ≡ [] = drop-nil (0 - keep) in
        record { snapshot = l; deltas = rw e (omega arith) }

    begins : Acceptable new → Room keep w [] new → step w new ≡ first
    begins a m = begins_step w.history new w.snapshots w.deltas (waits_formed i) (acceptable_admitted w new a) i.active m.snapshot

    begun : step w new ≡ first → Acceptable new × (◌≡◌ {A = List Bytes} [] []) × Room keep w [] new
    begun e =
        let f = step_first w.history new w.snapshots w.deltas e in
        (record { good = record { octets = octets; fine = f.fine }; short = f.short }, refl, first_room f.fits)

    filled : step w new ≡ refuse refusals.StoreFull → Acceptable new × ¬ Again w [] new × ¬ Room keep w [] new
    filled e =
        let f = step_nine w.history new w.snapshots w.deltas (waits_formed i) e in (
          record { good = record { octets = octets; fine = f.fine }; short = f.short },
          λ a. a.active refl,
          λ m. over f.full m,
        )
      where
        over : (length w.snapshots < length new) ⊎ ((w.history.active ≡ true) × (length w.deltas < total (map length (deltas_with w.history w.deltas (c w new))))) → ¬ Room keep w [] new
        over (inl l) m = let k = m.snapshot in omega arith
        over (inr l) m = let q : w.history.active ≡ true = l.0 in let p = i.active in never cc

    -- an inactive history has nothing that could stay or change
    inactive : {X : Type 0} → w.history.active ≡ true → X
    inactive q = let p = i.active in never cc

    no_change : {X : Type 0} → answer w new ≡ Ok outcome.Unchanged → X
    no_change e = inactive (step_unchanged w.history new w.snapshots w.deltas ((same_step w.history new w.snapshots w.deltas).0 e)).2

    no_delta : {X : Type 0} (k : Counts) → answer w new ≡ Ok (outcome.Changed k) → X
    no_delta k e =
        let f = changed_step w.history new w.snapshots w.deltas k e in
        inactive (step_add w.history new w.snapshots w.deltas f.0 f.1).active

    pub waits_updates : Updates keep w [] new
    waits_updates = record {
      ten = ten w new (waits_formed i);
      one = one w new (waits_formed i);
      twelve = twelve w new (waits_formed i);
      two = two w new (waits_formed i);
      nine = through (nine_step w new) (
        filled,
        λ e. first_nine w.history new w.snapshots w.deltas (waits_formed i) (acceptable_admitted w new e.0) i.active
            (short_or_long (length new) (length w.snapshots) (λ l. e.2 (first_room l))),
      );
      first = through (answered w new (Ok outcome.First)) (through (first_step_lem w.history new w.snapshots w.deltas) (begun, λ e. begins e.0 e.2));
      unchanged = (λ e. no_change ((answered w new (Ok outcome.Unchanged)).0 e), λ e. absurd (e.active refl));
      changed = λ k. (λ e. no_delta k ((answered w new (Ok (outcome.Changed k))).0 e), λ e. absurd (e.1 refl));
      accepts = λ a m. ap (λ (x : Result Update Refusal). numbered (refused_update x)) ((first_step_lem w.history new w.snapshots w.deltas).1 (begins a m));
    }

  -- ---- after it

  module _ (S : Bytes) (Ts : List Bytes) (i : Holds session keep start w S Ts) where
    good_current : GoodSnapshot (current w)
    good_current = rw i.current (all_newest GoodSnapshot S Ts i.good i.goods)

    -- the empty difference is that of the current snapshot
    same_current : GoodSnapshot new → length (c w new) ≡ 0 → new ≡ current w
    same_current g e = sym (difference_empty (current w) new good_current g (no_bytes (c w new) e))

    current_same : new ≡ current w → length (c w new) ≡ 0
    current_same e = ap (λ (s : Bytes). length (difference_of (current w) s)) e ∙ ap length (difference_self (current w) good_current)

    -- the room for the deltas that would then be held
    held_room : Room keep w (S ∷ Ts) new → total (map length (deltas_with w.history w.deltas (c w new))) ≤ length w.deltas
    held_room m = rw (would_hold i new) m.deltas

    later_room : length new ≤ length w.snapshots → total (map length (deltas_with w.history w.deltas (c w new))) ≤ length w.deltas → Room keep w (S ∷ Ts) new
    later_room l m = record { snapshot = l; deltas = rw (would_hold i new) at m }

    again_acceptable : Again w (S ∷ Ts) new → Acceptable new
    again_acceptable a =
        let f = i.frame.snapshots in
        record {
          good = rw a.same good_current;
          short = rw (a.same, length-take w.history.snapshot w.snapshots) (omega arith);
        }

    again_step : Again w (S ∷ Ts) new → step w new ≡ unchanged
    again_step a =
        unchanged_step w.history new w.snapshots w.deltas (holds_formed i) (acceptable_admitted w new (again_acceptable a)) i.active (current_same a.same)

    step_again : step w new ≡ unchanged → Again w (S ∷ Ts) new
    step_again e =
        let f = step_unchanged w.history new w.snapshots w.deltas e in
        record { active = λ n. full_list n; same = same_current (record { octets = octets; fine = f.0 }) f.1 }

    grows : Acceptable new → ¬ (new ≡ current w) → Room keep w (S ∷ Ts) new → step w new ≡ add (c w new)
    grows a n m =
        adds_step w.history new w.snapshots w.deltas (holds_formed i) (acceptable_admitted w new a) i.active (λ e. n (same_current a.good e)) m.snapshot (held_room m)

    grown : (k : Counts) → answer w new ≡ Ok (outcome.Changed k) →
        Acceptable new × ¬ (S ∷ Ts ≡ []) × ¬ (new ≡ current w) × Room keep w (S ∷ Ts) new × (k ≡ counts_of (c w new))
    grown k e =
        let f = changed_step w.history new w.snapshots w.deltas k e in
        let a = step_add w.history new w.snapshots w.deltas f.0 f.1 in
        let d : f.0 ≡ c w new = a.difference in
        let m : total (map length (deltas_with w.history w.deltas (c w new))) ≤ length w.deltas = rw d at a.room in (
          record { good = record { octets = octets; fine = a.fine }; short = a.short },
          λ n. full_list n,
          λ n. a.other (ap length d ∙ current_same n),
          later_room a.fits m,
          f.2 ∙ ap counts_of d,
        )

    over : step w new ≡ refuse refusals.StoreFull → Acceptable new × ¬ Again w (S ∷ Ts) new × ¬ Room keep w (S ∷ Ts) new
    over e =
        let f = step_nine w.history new w.snapshots w.deltas (holds_formed i) e in (
          record { good = record { octets = octets; fine = f.fine }; short = f.short },
          λ a. f.other i.active (current_same a.same),
          λ m. past f.full m,
        )
      where
        past : (length w.snapshots < length new) ⊎ ((w.history.active ≡ true) × (length w.deltas < total (map length (deltas_with w.history w.deltas (c w new))))) → ¬ Room keep w (S ∷ Ts) new
        past (inl l) m = let k = m.snapshot in omega arith
        past (inr l) m = let k = held_room m in let j = l.1 in omega arith

    no_first : {X : Type 0} → answer w new ≡ Ok outcome.First → X
    no_first e =
        let p = (step_first w.history new w.snapshots w.deltas ((first_step_lem w.history new w.snapshots w.deltas).0 e)).active in
        let q = i.active in never cc

    -- the current snapshot again, or a change
    accepted : Acceptable new → Room keep w (S ∷ Ts) new → refused_as (reply_of w (update new)) ≡ none
    accepted a m = go (eqb (length (c w new)) 0) refl
      where
        go : (t : Bool) → eqb (length (c w new)) 0 ≡ t → refused_as (reply_of w (update new)) ≡ none
        go true e =
            let s : Again w (S ∷ Ts) new = record { active = λ n. full_list n; same = same_current a.good (eqb-true (length (c w new)) 0 e) } in
            ap (λ (x : Result Update Refusal). numbered (refused_update x)) ((same_step w.history new w.snapshots w.deltas).1 (again_step s))
        go false e =
            let n : ¬ (new ≡ current w) = λ q. eqb-false (length (c w new)) 0 e (current_same q) in
            ap (λ (x : Result Update Refusal). numbered (refused_update x)) (step_changed w.history new w.snapshots w.deltas (c w new) (grows a n m))

    pub holds_updates : Updates keep w (S ∷ Ts) new
    holds_updates = record {
      ten = ten w new (holds_formed i);
      one = one w new (holds_formed i);
      twelve = twelve w new (holds_formed i);
      two = two w new (holds_formed i);
      nine = through (nine_step w new) (
        over,
        λ e. later_nine w.history new w.snapshots w.deltas (holds_formed i) (acceptable_admitted w new e.0) i.active
            (λ z. e.1 (record { active = λ n. full_list n; same = same_current e.0.good z }))
            (λ m. e.2 (later_room m.0 m.1)),
      );
      first = (λ e. no_first ((answered w new (Ok outcome.First)).0 e), λ e. full_list e.1);
      unchanged = through (answered w new (Ok outcome.Unchanged)) (through (same_step w.history new w.snapshots w.deltas) (step_again, again_step));
      changed = λ k. through (answered w new (Ok (outcome.Changed k))) (
        grown k,
        λ e. step_changed w.history new w.snapshots w.deltas (c w new) (grows e.0 e.2 e.3) ∙ ap (λ (x : Counts). Ok (outcome.Changed x)) (sym e.4),
      );
      accepts = accepted;
    }

pub inv_updates : (session keep : ℕ) (start : Serial) (w : World) (given : List Bytes) → Inv session keep start w given → (new : Bytes) → AllBytes new → Updates keep w given new
inv_updates session keep start w [] i new o = waits_updates session keep start w new o i
inv_updates session keep start w (S ∷ Ts) i new o = holds_updates session keep start w new o S Ts i
