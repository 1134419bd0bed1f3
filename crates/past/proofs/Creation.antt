-- Creation answers as document 01 says.
use Prim.Native.Nat.{ℕ, ◌≤◌}
use mathlib.Core.Path.{◌≡◌, refl, sym, ◌∙◌}
use mathlib.Core.Option.{Option, none}
use mathlib.Core.Bool.{Bool, true, false, cond}
use mathlib.Core.Logic.{◌↔◌}
use native.Mathlib.Omega.{arith}
use lib.Dec.{leb}
use lib.ListN.{length}
use borrow.Author.Tests.{leb-true, leb-false, le-leb, lt-leb}
use Rattle.order.proofs.Never.{never}
use Rattle.order.proofs.Map.{none≢some}
use Rattle.serial.specs.declared.Serial.{Serial}
use Rattle.body.specs.declared.tag.Form.TheVariants.{Snapshot, Delta}
use Rattle.body.proofs.Sizes.{both}
use Rattle.payload.specs.Content.{Bytes}
use Rattle.payload.specs.Limit.{limit}
use Rattle.delta.specs.declared.refusal.Refusal.TheVariants.{BadKeep, TooLong}
use Rattle.delta.specs.Refusal.{Values}
use Rattle.delta.specs.Admission.{and_then}
use Rattle.past.specs.WellFormed.{good_keep}
use Rattle.past.specs.Create.{create_at, create_of}
use Rattle.past.specs.Run.{refusal}
use Rattle.past.specs.Promise.{refused_creation, Creates}
use Rattle.past.proofs.Numbers.{number_of_lem, argument_of_lem}
use Rattle.delta.specs.Admission.{Admitted}
use Rattle.std.specs.Prelude.{Err, Ok}

-- the refusal by the outcome of the three tests: keep, the first store, the second
abbrev refusal_by : Bool → Bool → Bool → Option Values
refusal_by true true true = none
refusal_by true true false = refusal 10 2 0
refusal_by true false v = refusal 10 1 0
refusal_by false u v = refusal 8 0 0

eight_by : (t u v : Bool) → refusal_by t u v ≡ refusal 8 0 0 → t ≡ false
eight_by true true true e = none≢some refl e
eight_by true true false e = absurd (omega (arith, number_of_lem e))
eight_by true false v e = absurd (omega (arith, number_of_lem e))
eight_by false u v e = refl

first_by : (t u v : Bool) → refusal_by t u v ≡ refusal 10 1 0 → (t ≡ true) × (u ≡ false)
first_by true true true e = none≢some refl e
first_by true true false e = absurd (omega (arith, argument_of_lem e))
first_by true false v e = (refl, refl)
first_by false u v e = absurd (omega (arith, number_of_lem e))

second_by : (t u v : Bool) → refusal_by t u v ≡ refusal 10 2 0 → (t ≡ true) × (u ≡ true) × (v ≡ false)
second_by true true true e = none≢some refl e
second_by true true false e = (refl, refl, refl)
second_by true false v e = absurd (omega (arith, argument_of_lem e))
second_by false u v e = absurd (omega (arith, number_of_lem e))

module _ (session keep : ℕ) (start : Serial) (snapshots deltas : Bytes) where
  abbrev fits : Bool
  fits = leb (length snapshots) (limit Snapshot)

  abbrev holds : Bool
  holds = leb (length deltas) (limit Delta)

  answer_by_lem : refused_creation (create_of session keep start snapshots deltas).answer ≡ refusal_by (good_keep keep) fits holds
  unfolding create_of
  answer_by_lem = go (good_keep keep) fits holds
    where
      admitted : Bool → Bool → Bool → Admitted
      admitted t u v = and_then (cond t (Ok tt) (Err BadKeep)) (and_then (cond u (Ok tt) (Err (TooLong 1))) (cond v (Ok tt) (Err (TooLong 2))))

      go : (t u v : Bool) → refused_creation (create_at (admitted t u v) session keep start).answer ≡ refusal_by t u v
      go true true true = refl
      go true true false = refl
      go true false v = refl
      go false u v = refl

  keep_good : good_keep keep ≡ true ↔ (1 ≤ keep) × (keep ≤ 64)
  keep_good = (
    λ e. let k = both (leb 1 keep) (leb keep 64) e in (leb-true 1 keep k.0, leb-true keep 64 k.1),
    λ k. rw (le-leb 1 keep k.0, le-leb keep 64 k.1),
  )

  keep_bad : ¬ ((1 ≤ keep) × (keep ≤ 64)) → good_keep keep ≡ false
  keep_bad n = go (good_keep keep) refl
    where
      go : (t : Bool) → good_keep keep ≡ t → t ≡ false
      go true e = absurd (n (keep_good.0 e))
      go false e = refl

  no_keep : good_keep keep ≡ false → ¬ ((1 ≤ keep) × (keep ≤ 64))
  no_keep e k = let p : good_keep keep ≡ true = keep_good.1 k in never cc

  pub creates : Creates session keep start snapshots deltas
  unfolding create_of
  creates = record {
    eight = (
      λ e. no_keep (eight_by (good_keep keep) fits holds (sym answer_by_lem ∙ e)),
      λ n. answer_by_lem ∙ rw (keep_bad n),
    );
    ten_first = (
      λ e.
          let f = first_by (good_keep keep) fits holds (sym answer_by_lem ∙ e) in
          let k = keep_good.0 f.0 in (k.0, k.1, leb-false (length snapshots) (limit Snapshot) f.1),
      λ e. answer_by_lem ∙ rw (keep_good.1 (e.0, e.1), lt-leb (length snapshots) (limit Snapshot) e.2),
    );
    ten_second = (
      λ e.
          let f = second_by (good_keep keep) fits holds (sym answer_by_lem ∙ e) in
          let k = keep_good.0 f.0 in (k.0, k.1, leb-true (length snapshots) (limit Snapshot) f.1, leb-false (length deltas) (limit Delta) f.2),
      λ e. answer_by_lem ∙ rw (keep_good.1 (e.0, e.1), le-leb (length snapshots) (limit Snapshot) e.2, lt-leb (length deltas) (limit Delta) e.3),
    );
    done = λ a b c d.
        rw (le-leb 1 keep a, le-leb keep 64 b, le-leb (length snapshots) (limit Snapshot) c, le-leb (length deltas) (limit Delta) d);
  }
