-- Laws of the query.
use Prim.Native.Nat.{ℕ, ◌^◌, ◌≤◌, ◌<◌}
use mathlib.Core.Path.{◌≡◌, refl, sym, ◌∙◌}
use mathlib.Core.List.{List, [], ◌∷◌}
use mathlib.Core.Bool.{Bool, true, false, cond, ◌&&◌}
use native.Mathlib.Omega.{arith}
use lib.Dec.{leb, eqb}
use lib.ListN.{length, take}
use borrow.Author.Tests.{leb-true, le-leb, lt-leb, eqb-true, ne_eqb}
use Rattle.order.specs.Map.{All}
use Rattle.order.proofs.Never.{never}
use Rattle.body.proofs.Sizes.{both}
use Rattle.serial.specs.declared.Serial.{Serial}
use Rattle.serial.specs.declared.Session.{Session}
use Rattle.serial.specs.Serial.{distance_of, session_of}
use Rattle.body.specs.declared.tag.Form.TheVariants.{Snapshot, Delta}
use Rattle.field.specs.Verdict.{verdict}
use Rattle.payload.specs.Content.{Bytes}
use Rattle.payload.specs.Limit.{limit}
use Rattle.payload.specs.Payload.{encode}
use Rattle.delta.specs.declared.refusal.Refusal.{Refusal}
use Rattle.delta.specs.declared.refusal.Refusal.TheVariants.{NoRoom, OtherSession, NotServed, IllFormed}
use Rattle.item.specs.declared.sink.Counts.{Counts}
use Rattle.delta.specs.Admission.{and_then}
use Rattle.delta.specs.Answer.{out_after}
use Rattle.walk.specs.Walk.{output_of, whole_out}
use Rattle.delta.proofs.Answering.{delta_room, delta_written, delta_out}
use Rattle.past.specs.declared.state.History.{History}
use Rattle.past.specs.declared.query.Queried.{Queried}
use Rattle.past.specs.Store.{total, held_lengths, held_deltas}
use Rattle.past.specs.WellFormed.{is_fine, is_good, every, good_keep, in_range, good_serial, good_start, good_stores, good_held, well_formed}
use Rattle.past.specs.Query.{is_served, is_session, passes, query_admitted, merged_last, refused_with, query_at, query_of, query_out}
use Rattle.merged.specs.Place.{IsFine, Stored, last_merged}
use Rattle.past.proofs.Served.{served_rule, rule_within}
use Rattle.std.specs.Prelude.{None, Option, Some, Err, Ok}
use Rattle.delta.specs.Admission.{Admitted}
use Rattle.field.specs.declared.verdict.Flaw.TheVariants as flaw
use Rattle.field.specs.Verdict.{Verdict}

-- ---- the tests

module _ (start : Serial) (n : ℕ) (asked : Serial) (d : ℕ) where
  pub served_held : (n ≡ 0 → ⊥) → leb d n ≡ is_served start n asked d
  served_held h = rw (ne_eqb n 0 h)

-- ---- serve

merged_is : (h : History) (d : ℕ) (deltas : Bytes) → encode Delta (last_merged deltas h.deltas h.n d) ≡ merged_last d (held_deltas h deltas)
unfolding merged_last
merged_is h d deltas = refl

module _ (h : History) (d : ℕ) (deltas : Bytes) (n : ℕ) (en : n ≡ h.n) where
  pub serve_stored : Stored deltas h.deltas h.n → Stored deltas h.deltas n
  serve_stored s = rw en s

  module _ (k : ℕ) (ek : k ≡ d) (o : Bytes) where
    module _ (w : Option Counts) (e : w ≡ output_of Delta (last_merged deltas h.deltas n k) (length o)) where
      output_is : w ≡ output_of Delta (last_merged deltas h.deltas h.n d) (length o)
      output_is = e ∙ rw (en, ek)

      pub serve_written : (c : Counts) (s : Session) → w ≡ Some c → s ≡ session_of h.session →
          record { session = s; serial = h.newest; answer = Ok c } ≡ query_at (Ok tt) h (merged_last d (held_deltas h deltas)) (length o)
      serve_written c s q i =
          let b = merged_last d (held_deltas h deltas) in
          let m = delta_written (last_merged deltas h.deltas h.n d) b (merged_is h d deltas) (length o) c (sym q ∙ output_is) in
          rw (le-leb (length b) (length o) m.0, i, m.1)

      pub serve_long : (r : Queried) → w ≡ None → r ≡ refused_with NoRoom → r ≡ query_at (Ok tt) h (merged_last d (held_deltas h deltas)) (length o)
      serve_long r q i =
          let b = merged_last d (held_deltas h deltas) in
          let m = delta_room (last_merged deltas h.deltas h.n d) b (merged_is h d deltas) (length o) (sym q ∙ output_is) in
          rw (lt-leb (length b) (length o) m) i

    pub serve_bytes : (o' : Bytes) → o' ≡ whole_out Delta (last_merged deltas h.deltas n k) o → o' ≡ out_after (Ok tt) (merged_last d (held_deltas h deltas)) o
    serve_bytes o' e =
        e ∙ rw (en, ek) (delta_out (last_merged deltas h.deltas h.n d) (merged_last d (held_deltas h deltas)) (merged_is h d deltas) o)

pub ruleset serving = (serve_stored, serve_written, serve_long, serve_bytes)

-- ---- what an admitted query may rely on

pub fine_true : (v : Verdict) → is_fine v ≡ true → v ≡ Ok tt
fine_true (Ok tt) e = refl
fine_true (Err (flaw.Bad at)) e = never cc
fine_true (Err (flaw.Senseless at)) e = never cc
fine_true (Err (flaw.NotAbove at)) e = never cc

every_true : (ds : List Bytes) → every (is_good Delta) ds ≡ true → All IsFine ds
every_true [] e = tt
every_true (d ∷ ds) e = let p = both (is_good Delta d) (every (is_good Delta) ds) e in (fine_true (verdict Delta d) p.0, every_true ds p.1)

module _ (h : History) (snapshots deltas : Bytes) (e : well_formed h snapshots deltas ≡ true) where
  abbrev state : Bool
  state = in_range h && good_serial h && good_start h

  split : ((in_range h ≡ true) × (good_serial h ≡ true)) × ((good_stores h snapshots deltas ≡ true) × (good_held h snapshots deltas ≡ true))
  unfolding well_formed
  split =
      let a = both (state && good_stores h snapshots deltas) (good_held h snapshots deltas) e in
      let b = both state (good_stores h snapshots deltas) a.0 in
      let c = both (in_range h && good_serial h) (good_start h) b.0 in
      (both (in_range h) (good_serial h) c.0, (b.1, a.1))

  formed_few : h.n ≤ 64
  formed_few =
      let a = both (good_keep h.keep) (leb h.n h.keep) split.0.0 in
      let b = both (leb 1 h.keep) (leb h.keep 64) a.0 in
      omega (arith, leb-true h.n h.keep a.1, leb-true h.keep 64 b.1)

  -- with no deltas F is the start serial
  pub formed_serial : h.n ≡ 0 → h.newest.0 ≡ h.start.0
  formed_serial z = go h.active (rw z at split.0.1)
    where
      go : (t : Bool) → cond t (cond (eqb 0 0) (eqb h.newest.0 h.start.0) true) (eqb h.newest.0 h.start.0) ≡ true → h.newest.0 ≡ h.start.0
      go true q = eqb-true h.newest.0 h.start.0 q
      go false q = eqb-true h.newest.0 h.start.0 q

  pub formed_stored : Stored deltas h.deltas h.n
  formed_stored =
      let a = both (leb (length snapshots) (limit Snapshot) && leb (length deltas) (limit Delta) && leb h.snapshot (length snapshots)) (leb (total (held_lengths h)) (length deltas)) split.1.0 in
      let b = both (leb (length snapshots) (limit Snapshot) && leb (length deltas) (limit Delta)) (leb h.snapshot (length snapshots)) a.0 in
      let c = both (leb (length snapshots) (limit Snapshot)) (leb (length deltas) (limit Delta)) b.0 in
      let d = both (is_good Snapshot (take h.snapshot snapshots)) (every (is_good Delta) (held_deltas h deltas)) split.1.1 in
      record {
        few = formed_few;
        fits = leb-true (total (held_lengths h)) (length deltas) a.1;
        small = leb-true (length deltas) (limit Delta) c.1;
        good = every_true (held_deltas h deltas) d.1;
      }

-- ---- query

-- the tests of an admitted query
tests_true : (t u v : Bool) → and_then (passes t IllFormed) (and_then (passes u OtherSession) (passes v NotServed)) ≡ Ok tt → (t ≡ true) × (v ≡ true)
tests_true true true true e = (refl, refl)
tests_true true true false e = never cc
tests_true true false v e = never cc
tests_true false u v e = never cc

module _ (h : History) (session : Session) (asked : Serial) (snapshots deltas : Bytes) (x : Admitted) (e : x ≡ query_admitted h session asked snapshots deltas) where
  module _ (r : Refusal) (q : x ≡ Err r) where
    pub query_refused : (a : Queried) (room : ℕ) → a ≡ refused_with r → a ≡ query_of h session asked snapshots deltas room
    unfolding query_of
    query_refused a room i = rw (← e, q) i

    pub query_kept : (o : Bytes) → o ≡ query_out h session asked snapshots deltas o
    unfolding query_out
    query_kept o = rw (← e, q)

  module _ (q : x ≡ Ok tt) where
    passed : (well_formed h snapshots deltas ≡ true) × (is_served h.start h.n asked (distance_of h.newest asked) ≡ true)
    passed = tests_true (well_formed h snapshots deltas) (is_session h session) (is_served h.start h.n asked (distance_of h.newest asked)) (sym e ∙ q)

    pub query_stored : Stored deltas h.deltas h.n
    query_stored = formed_stored h snapshots deltas passed.0

    module _ (d : ℕ) (i : d ≡ distance_of h.newest asked) where
      pub query_within : asked.0 < 2 ^ 32 → d ≤ h.n
      query_within l =
          let w = rule_within h.start h.n h.newest asked l (formed_serial h snapshots deltas passed.0) (served_rule h.start h.n asked (distance_of h.newest asked) passed.1) in
          rw i w

      pub query_served : (a : Queried) (room : ℕ) → a ≡ query_at (Ok tt) h (merged_last d (held_deltas h deltas)) room → a ≡ query_of h session asked snapshots deltas room
      unfolding query_of
      query_served a room j = rw (← e, q) (rw i at j)

      pub query_bytes : (o o' : Bytes) → o' ≡ out_after (Ok tt) (merged_last d (held_deltas h deltas)) o → o' ≡ query_out h session asked snapshots deltas o
      unfolding query_out
      query_bytes o o' j = rw (← e, q) (rw i at j)

pub ruleset querying = (query_refused, query_kept, query_stored, query_within, query_served, query_bytes)
