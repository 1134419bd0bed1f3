-- Which queries of any history get which answer, and what the output holds afterwards.
use Prim.Native.Nat.{ℕ, ◌≤◌}
use mathlib.Core.Path.{◌≡◌, refl, sym, ◌∙◌}
use mathlib.Core.Bool.{Bool, true, false, cond}
use mathlib.Core.Logic.{◌↔◌}
use lib.Dec.{leb}
use lib.ListN.{length, take, drop}
use lib.Seq.{take-append_seam}
use borrow.Author.Tests.{leb-true, le-leb}
use Rattle.order.proofs.Never.{never}
use Rattle.serial.specs.declared.Serial.{Serial}
use Rattle.serial.specs.declared.Session.{Session}
use Rattle.serial.specs.Serial.{distance_of}
use Rattle.payload.specs.Content.{Bytes}
use Rattle.delta.specs.declared.refusal.Refusal.{Refusal}
use Rattle.delta.specs.declared.refusal.Refusal.TheVariants.{NoRoom, OtherSession, NotServed, IllFormed}
use Rattle.item.specs.declared.sink.Counts.{Counts}
use Rattle.delta.specs.Admission.{and_then}
use Rattle.delta.specs.Answer.{counts_of, out_after}
use Rattle.payload.specs.Written.{written_over}
use Rattle.past.specs.declared.state.History.{History}
use Rattle.past.specs.declared.query.Queried.{Queried}
use Rattle.past.specs.WellFormed.{well_formed}
use Rattle.past.specs.Query.{is_served, is_session, passes, answer_of, refused_with, served_with, query_at, query_of, query_out}
use Rattle.delta.specs.Admission.{Admitted}
use Rattle.std.specs.Prelude.{Err, Ok, Result}

-- the answer by the outcome of the four tests, in the order of their refusals: 7, 5, 6, 4
abbrev answer_by : Bool → Bool → Bool → Bool → Counts → Result Counts Refusal
answer_by false u v f c = Err IllFormed
answer_by true false v f c = Err OtherSession
answer_by true true false f c = Err NotServed
answer_by true true true false c = Err NoRoom
answer_by true true true true c = Ok c

-- two answers that differ: from them anything follows

module _ (c : Counts) where
  seven_by : (t u v f : Bool) → answer_by t u v f c ≡ Err IllFormed → t ≡ false
  seven_by false u v f e = refl
  seven_by true false v f e = never cc
  seven_by true true false f e = never cc
  seven_by true true true false e = never cc
  seven_by true true true true e = never cc

  five_by : (t u v f : Bool) → answer_by t u v f c ≡ Err OtherSession → (t ≡ true) × (u ≡ false)
  five_by false u v f e = never cc
  five_by true false v f e = (refl, refl)
  five_by true true false f e = never cc
  five_by true true true false e = never cc
  five_by true true true true e = never cc

  six_by : (t u v f : Bool) → answer_by t u v f c ≡ Err NotServed → (t ≡ true) × (u ≡ true) × (v ≡ false)
  six_by false u v f e = never cc
  six_by true false v f e = never cc
  six_by true true false f e = (refl, refl, refl)
  six_by true true true false e = never cc
  six_by true true true true e = never cc

  four_by : (t u v f : Bool) → answer_by t u v f c ≡ Err NoRoom → (t ≡ true) × (u ≡ true) × (v ≡ true) × (f ≡ false)
  four_by false u v f e = never cc
  four_by true false v f e = never cc
  four_by true true false f e = never cc
  four_by true true true false e = (refl, refl, refl, refl)
  four_by true true true true e = never cc

  served_by : (t u v f : Bool) (d : Counts) → answer_by t u v f c ≡ Ok d → (t ≡ true) × (u ≡ true) × (v ≡ true) × (f ≡ true) × (d ≡ c)
  served_by false u v f d e = never cc
  served_by true false v f d e = never cc
  served_by true true false f d e = never cc
  served_by true true true false d e = never cc
  served_by true true true true d e = (refl, refl, refl, refl, cc)

-- the three tests before that of the room
abbrev tests : Bool → Bool → Bool → Admitted
tests t u v = and_then (passes t IllFormed) (and_then (passes u OtherSession) (passes v NotServed))

-- a refused query leaves the output as it was
out_by_lem : (t u v f : Bool) (c : Counts) (d out : Bytes) → leb (length d) (length out) ≡ f → (r : Refusal) → answer_by t u v f c ≡ Err r →
    out_after (tests t u v) d out ≡ out
out_by_lem false u v f c d out i r e = refl
out_by_lem true false v f c d out i r e = refl
out_by_lem true true false f c d out i r e = refl
out_by_lem true true true false c d out i r e = rw i
out_by_lem true true true true c d out i r e = never cc

module _ (h : History) (session : Session) (asked : Serial) (snapshots deltas : Bytes) where
  abbrev formed : Bool
  formed = well_formed h snapshots deltas

  abbrev same : Bool
  same = is_session h session

  abbrev served : Bool
  served = is_served h.start h.n asked (distance_of h.newest asked)

  abbrev D : Bytes
  D = answer_of h asked deltas

  answer_by_lem : (room : ℕ) → (query_of h session asked snapshots deltas room).answer ≡ answer_by formed same served (leb (length D) room) (counts_of D)
  unfolding query_of
  answer_by_lem room = go formed same served
    where
      fits : (f : Bool) → (cond {A = Queried} f (served_with h D) (refused_with NoRoom)).answer ≡ answer_by true true true f (counts_of D)
      fits true = refl
      fits false = refl

      go : (t u v : Bool) → (query_at (tests t u v) h D room).answer ≡ answer_by t u v (leb (length D) room) (counts_of D)
      go true true true = fits (leb (length D) room)
      go true true false = refl
      go true false v = refl
      go false u v = refl

  module _ (room : ℕ) where
    -- refusal 7 comes exactly for a history that is not well formed
    pub seven : (query_of h session asked snapshots deltas room).answer ≡ Err IllFormed ↔ well_formed h snapshots deltas ≡ false
    seven = (
      λ e. seven_by (counts_of D) formed same served (leb (length D) room) (sym (answer_by_lem room) ∙ e),
      λ e. answer_by_lem room ∙ rw e,
    )

    -- else 5 exactly for another session
    pub five : (query_of h session asked snapshots deltas room).answer ≡ Err OtherSession ↔ (well_formed h snapshots deltas ≡ true) × (is_session h session ≡ false)
    five = (
      λ e. five_by (counts_of D) formed same served (leb (length D) room) (sym (answer_by_lem room) ∙ e),
      λ e. answer_by_lem room ∙ rw (e.0, e.1),
    )

    -- else 6 exactly for a serial that is not served
    pub six : (query_of h session asked snapshots deltas room).answer ≡ Err NotServed ↔ (well_formed h snapshots deltas ≡ true) × (is_session h session ≡ true) × (is_served h.start h.n asked (distance_of h.newest asked) ≡ false)
    six = (
      λ e. six_by (counts_of D) formed same served (leb (length D) room) (sym (answer_by_lem room) ∙ e),
      λ e. answer_by_lem room ∙ rw (e.0, e.1, e.2),
    )

    -- else 4 exactly for an answer that is longer than the output lent
    pub four : (query_of h session asked snapshots deltas room).answer ≡ Err NoRoom ↔ (well_formed h snapshots deltas ≡ true) × (is_session h session ≡ true) × (is_served h.start h.n asked (distance_of h.newest asked) ≡ true) × (leb (length (answer_of h asked deltas)) room ≡ false)
    four = (
      λ e. four_by (counts_of D) formed same served (leb (length D) room) (sym (answer_by_lem room) ∙ e),
      λ e. answer_by_lem room ∙ rw (e.0, e.1, e.2, e.3),
    )

    -- else the answer is served, with its length and counts
    pub serves : well_formed h snapshots deltas ≡ true → is_session h session ≡ true → is_served h.start h.n asked (distance_of h.newest asked) ≡ true →
        length (answer_of h asked deltas) ≤ room → query_of h session asked snapshots deltas room ≡ served_with h (answer_of h asked deltas)
    unfolding query_of
    serves e f g l = rw (e, f, g, le-leb (length D) room l)

  -- what a served query has found, and what its output holds
  module _ (out : Bytes) (c : Counts) (e : (query_of h session asked snapshots deltas (length out)).answer ≡ Ok c) where
    found : (formed ≡ true) × (same ≡ true) × (served ≡ true) × (leb (length D) (length out) ≡ true) × (c ≡ counts_of D)
    found = served_by (counts_of D) formed same served (leb (length D) (length out)) c (sym (answer_by_lem (length out)) ∙ e)

    pub found_served : is_served h.start h.n asked (distance_of h.newest asked) ≡ true
    found_served = found.2

    pub out_served : take c.len (query_out h session asked snapshots deltas out) ≡ answer_of h asked deltas
    unfolding query_out
    out_served = let f = found in rw (f.4, f.0, f.1, f.2, f.3) (take-append_seam D (drop (length D) out))

    pub out_whole : query_out h session asked snapshots deltas out ≡ written_over (answer_of h asked deltas) out
    unfolding query_out
    out_whole = let f = found in rw (f.0, f.1, f.2, f.3)

    -- all of the answer
    pub answer_served : query_of h session asked snapshots deltas (length out) ≡ served_with h (answer_of h asked deltas)
    answer_served = let f = found in serves (length out) f.0 f.1 f.2 (leb-true (length D) (length out) f.3)

    pub counts_served : c ≡ counts_of (answer_of h asked deltas)
    counts_served = found.4

  -- a refused query leaves the output as it was
  pub out_refused : (out : Bytes) (r : Refusal) → (query_of h session asked snapshots deltas (length out)).answer ≡ Err r →
      query_out h session asked snapshots deltas out ≡ out
  unfolding query_out
  out_refused out r e = out_by_lem formed same served (leb (length D) (length out)) (counts_of D) D out refl r (sym (answer_by_lem (length out)) ∙ e)
