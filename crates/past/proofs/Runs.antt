-- Demand 3 over runs of calls from a fresh history.
use Prim.Native.Nat.{ℕ, ◌-◌, ◌^◌, ◌≤◌, ◌<◌, min}
use mathlib.Core.Path.{◌≡◌, refl, sym, ap, ◌∙◌}
use mathlib.Core.List.{List, [], ◌∷◌, map}
use mathlib.Core.Option.{some}
use mathlib.Core.Bool.{Bool, true, false, cond, true≢false}
use mathlib.Core.Logic.{◌↔◌, ◌⊎◌}
use native.Mathlib.Omega.{arith}
use lib.Dec.{leb, eqb}
use lib.ListN.{length, length-take, length-map}
use lib.Seq.{drop-nil}
use borrow.Author.Tests.{leb-true, leb-false, lt-leb, eqb-true, eqb-false, eq-eqb, ne_eqb}
use Rattle.order.specs.Comparison.{bytes}
use Rattle.order.specs.Map.{All, Sorted}
use Rattle.order.proofs.Never.{never}
use Rattle.order.proofs.Comparison.{strings}
use Rattle.order.proofs.Map.{none≢some}
use Rattle.change.specs.Difference.{diff}
use Rattle.change.specs.Merge.{merge_all}
use Rattle.change.specs.History.{last_n, newest}
use Rattle.change.specs.Held.{nth}
use Rattle.change.proofs.Chain.{all_newest, all_nth}
use Rattle.change.proofs.History.{answer}
use Rattle.serial.specs.declared.Serial.{Serial}
use Rattle.serial.specs.declared.Session.{Session}
use Rattle.serial.specs.Serial.{distance_of, session_of}
use Rattle.serial.specs.Rfc1982.{standing}
use Rattle.serial.proofs.Steps.{same_serial}
use Rattle.body.specs.declared.tag.Form.TheVariants.{Snapshot, Delta}
use Rattle.field.specs.Cells as run
use Rattle.payload.specs.Content.{Bytes}
use Rattle.payload.specs.Payload.{encode, items, changes}
use Rattle.payload.specs.Limit.{limit}
use Rattle.body.proofs.Sizes.{both}
use Rattle.delta.specs.declared.refusal.Refusal.{Refusal}
use Rattle.delta.specs.declared.refusal.Refusal.TheVariants.{NoRoom, OtherSession, NotServed, IllFormed, BadKeep, TooLong}
use Rattle.delta.specs.Refusal.{Values}
use Rattle.item.specs.declared.sink.Counts.{Counts}
use Rattle.delta.specs.Admission.{and_then}
use Rattle.delta.specs.Answer.{difference_of, counts_of}
use Rattle.past.specs.declared.query.Queried.{Queried}
use Rattle.past.specs.Store.{held_deltas}
use Rattle.past.specs.WellFormed.{good_keep, well_formed}
use Rattle.past.specs.Create.{create_at, create_of}
use Rattle.past.specs.Update.{Step, refuse, first, unchanged, add, step_for, update_at, update_of, snapshots_at, update_snapshots, deltas_at, update_deltas}
use Rattle.past.specs.Query.{is_served, is_session, merged_last, answer_of, served_with, query_out}
use Rattle.past.specs.Full.{full_of, notify_of, ready_of}
use Rattle.past.specs.Run.{World, Call, update, query, full, notify, ready, queried, fully, noticed, is_ready, reply_of, lent_to, left_in, step_of, refused_update, refused_answer, numbered, refused_as, refusal, Reached, onward, start_of, run_of, carried}
use Rattle.past.specs.Promise.{OfBytes, changes_in, serial_in, InRule, due, Leads, current, written_in, queried_in, Promise, EveryRun}
use Rattle.past.proofs.Lists.{map_last_n, map_newest, map_nth, all_map}
use Rattle.delta.specs.Demand.{GoodSnapshot}
use Rattle.payload.specs.Written.{written_over}
use Rattle.delta.proofs.Differences.{good_map, difference_applies, difference_fits, difference_yields}
use Rattle.past.proofs.Served.{served_rule, rule_served, rule_within, carried_back}
use Rattle.past.proofs.Steps.{step_seven, refused_step}
use Rattle.past.proofs.Invariant.{Frame, Holds, Waits, Inv, holds_count, holds_zero, inv_formed, call_inv}
use Rattle.past.proofs.Numbers.{through, update_refused, answer_refused}
use Rattle.past.proofs.Updates.{inv_updates}
use Rattle.past.proofs.Ordered.{rule_before, rule_unordered}
use Rattle.past.proofs.Queries as queries
use Rattle.delta.specs.Admission.{Admitted}
use Rattle.std.specs.Prelude.{Err, Ok, Result, None, Some}
use Rattle.std.specs.declared.cmp.Ordering.TheVariants as ordering

-- ---- refused calls, of any world

-- a refused call leaves the history, both stores and the output lent to it as they were
pub refused_stays : (w : World) (c : Call) (x : Values) → refused_as (reply_of w c) ≡ some x → (step_of w c ≡ w) × (left_in (reply_of w c) ≡ lent_to c)
unfolding update_of update_snapshots update_deltas
refused_stays w (update new) x e = (go (step_for w.history new w.snapshots w.deltas) e, refl)
  where
    go : (s : Step) → numbered (refused_update (update_at s w.history new w.deltas).answer) ≡ some x →
        ◌≡◌ {A = World} (record {
          history = (update_at s w.history new w.deltas).history;
          snapshots = snapshots_at s new w.snapshots;
          deltas = deltas_at s w.history w.deltas;
        }) w
    go (refuse q) e = refl
    go first e = none≢some refl e
    go unchanged e = none≢some refl e
    go (add d) e = none≢some refl e
refused_stays w (query session asked out) x e = (refl, go (queried_in w session asked (length out)).answer refl e)
  where
    go : (a : Result Counts Refusal) → (queried_in w session asked (length out)).answer ≡ a → numbered (refused_answer a) ≡ some x →
        query_out w.history session asked w.snapshots w.deltas out ≡ out
    go (Err r) p e = queries.out_refused w.history session asked w.snapshots w.deltas out r p
    go (Ok c) p e = none≢some refl e
refused_stays w full x e = (refl, refl)
refused_stays w notify x e = (refl, refl)
refused_stays w ready x e = (refl, refl)

-- a well-formed history gets no refusal 7
formed_seven : (w : World) → well_formed w.history w.snapshots w.deltas ≡ true → (c : Call) → ¬ (refused_as (reply_of w c) ≡ refusal 7 0 0)
unfolding full_of
formed_seven w f (update new) e =
    let p = (update_refused (update_of w.history new w.snapshots w.deltas).answer IllFormed).0 e in
    step_seven w.history new w.snapshots w.deltas f ((refused_step w.history new w.snapshots w.deltas IllFormed).0 p)
formed_seven w f (query s asked out) e =
    let p = (answer_refused (queried_in w s asked (length out)).answer IllFormed).0 e in
    true≢false (sym f ∙ (queries.seven w.history s asked w.snapshots w.deltas (length out)).0 p)
formed_seven w f full e = none≢some refl (rw f at e)
formed_seven w f notify e = none≢some refl e
formed_seven w f ready e = none≢some refl e

-- ---- what a served query gets

module _ {session keep : ℕ} {start : Serial} {w : World} {S : Bytes} {Ts : List Bytes} (i : Holds session keep start w S Ts) (asked : Serial) (below : asked.0 < 2 ^ 32)
    (served : is_served w.history.start w.history.n asked (distance_of w.history.newest asked) ≡ true) where
  -- how many changes ago the serial asked for was the newest, and the snapshot that carried it then
  abbrev d : ℕ
  d = distance_of w.history.newest asked

  abbrev base : Bytes
  base = nth (length Ts - d) S Ts

  near : (d ≤ keep) × (d ≤ length Ts)
  near =
      let c = holds_count i in
      let l = rule_within w.history.start w.history.n w.history.newest asked below (holds_zero i) (served_rule w.history.start w.history.n asked d served) in
      omega arith

  good_base : GoodSnapshot base
  good_base = all_nth GoodSnapshot (length Ts - d) S Ts i.good i.goods

  good_newest : GoodSnapshot (newest S Ts)
  good_newest = all_newest GoodSnapshot S Ts i.good i.goods

  -- the last d deltas, merged, are the difference from there to the newest
  merged_is : merge_all bytes bytes (map changes (last_n d (held_deltas w.history w.deltas))) ≡ diff bytes bytes (items base) (items (newest S Ts))
  merged_is =
      let s : Sorted bytes (items S) = (good_map S i.good).sorted in
      let t : All (Sorted bytes) (map items Ts) = all_map items GoodSnapshot (Sorted bytes) (λ T g. (good_map T g).sorted) Ts i.goods in
      rw (map_last_n changes d (held_deltas w.history w.deltas), i.says)
      (answer strings strings keep d (items S) (map items Ts) near.0 s t
      ∙ rw (length-map Ts items, map_nth items (length Ts - d) S Ts, map_newest items S Ts))

  pub answer_is : answer_of w.history asked w.deltas ≡ difference_of base (newest S Ts)
  unfolding merged_last difference_of
  answer_is = ap (encode Delta) merged_is

  pub base_carried : carried start asked (S ∷ Ts) ≡ some base
  base_carried = carried_back start w.history.newest asked S Ts i.frame.bound below i.serial near.1

  -- it is what is due
  pub answer_due : answer_of w.history asked w.deltas ≡ due w start (S ∷ Ts) asked
  answer_due = rw (base_carried, i.current) answer_is

  pub answer_leads : Leads start (S ∷ Ts) (current w) asked (answer_of w.history asked w.deltas)
  answer_leads = rw (answer_is, i.current) (record {
    base = base;
    most_recent = base_carried;
    applies = difference_applies base (newest S Ts) good_base good_newest;
    fits = difference_fits base (newest S Ts) good_base good_newest;
    yields = difference_yields base (newest S Ts) good_base good_newest;
    exact = refl;
  })

-- before the first snapshot nothing is due
waits_due : {session keep : ℕ} {start : Serial} {w : World} → Waits session keep start w → (asked : Serial) → answer_of w.history asked w.deltas ≡ []
unfolding merged_last encode run.cell_bytes
waits_due {w = w} i asked = rw (i.count, drop-nil (0 - distance_of w.history.newest asked))

queried_path : {a b : Queried} {x y : Bytes} → a ≡ b → x ≡ y → queried a x ≡ queried b y
queried_path p q = λ i. queried (p i) (q i)

served_path : {a b : Session} {f g : Serial} {d e : Bytes} → a ≡ b → f ≡ g → d ≡ e →
    ◌≡◌ {A = Queried} (record { session = a; serial = f; answer = Ok (counts_of d) }) (record { session = b; serial = g; answer = Ok (counts_of e) })
served_path p q r = λ i. record { session = p i; serial = q i; answer = Ok (counts_of (r i)) }

-- ---- every run

-- a creation that is done leaves a fresh history
start_inv : (session keep : ℕ) (start : Serial) (snapshots deltas : Bytes) → start.0 < 2 ^ 32 → (create_of session keep start snapshots deltas).answer ≡ Ok tt →
    Inv session keep start (start_of session keep start snapshots deltas).world []
unfolding create_of
start_inv session keep start snapshots deltas bound = go (good_keep keep) refl (leb (length snapshots) (limit Snapshot)) refl (leb (length deltas) (limit Delta)) refl
  where
    admitted : Bool → Bool → Bool → Admitted
    admitted t u v = and_then (cond t (Ok tt) (Err BadKeep)) (and_then (cond u (Ok tt) (Err (TooLong 1))) (cond v (Ok tt) (Err (TooLong 2))))

    refusal : {X : Type 0} {r : Refusal} → ◌≡◌ {A = Admitted} (Err r) (Ok tt) → X
    refusal e = never cc

    go : (t : Bool) → good_keep keep ≡ t → (u : Bool) → leb (length snapshots) (limit Snapshot) ≡ u → (v : Bool) → leb (length deltas) (limit Delta) ≡ v →
        (create_at (admitted t u v) session keep start).answer ≡ Ok tt →
        Waits session keep start (record { history = (create_at (admitted t u v) session keep start).history; snapshots = snapshots; deltas = deltas })
    go true p true q true r e =
        let k = both (leb 1 keep) (leb keep 64) p in
        record {
          frame = record {
            of_session = refl;
            of_keep = refl;
            of_start = refl;
            bound = bound;
            least = leb-true 1 keep k.0;
            most = leb-true keep 64 k.1;
            snapshots = leb-true (length snapshots) (limit Snapshot) q;
            deltas = leb-true (length deltas) (limit Delta) r;
          };
          active = refl;
          serial = refl;
          count = refl;
          snapshot = refl;
        }
    go true p true q false r e = refusal e
    go true p false q v r e = refusal e
    go false p u q v r e = refusal e

run_inv : (session keep : ℕ) (start : Serial) (r : Reached) (calls : List Call) → All OfBytes calls → Inv session keep start r.world r.given →
    Inv session keep start (run_of r calls).world (run_of r calls).given
run_inv session keep start r [] o i = i
run_inv session keep start r (c ∷ calls) o i = run_inv session keep start (onward r c) calls o.1 (call_inv session keep start r.world r.given c o.0 i)

module _ (session keep : ℕ) (start : Serial) (w : World) where
  inv_frame : (given : List Bytes) → Inv session keep start w given → Frame session keep start w
  inv_frame [] i = i.frame
  inv_frame (S ∷ Ts) i = i.frame

  inv_serial : (given : List Bytes) → Inv session keep start w given → w.history.newest ≡ serial_in start given
  inv_serial [] i = let e = i.serial in let b = i.frame.bound in same_serial {m = w.history.newest.0} (omega arith)
  inv_serial (S ∷ Ts) i = let e = i.serial in same_serial {m = w.history.newest.0} (omega arith)

  inv_count : (given : List Bytes) → Inv session keep start w given → w.history.n ≡ min keep (changes_in given)
  inv_count [] i = let e = i.count in omega arith
  inv_count (S ∷ Ts) i = let e = holds_count i in omega arith

  inv_length : (given : List Bytes) → Inv session keep start w given → length (current w) ≡ w.history.snapshot
  inv_length [] i = let e = i.snapshot in length-take w.history.snapshot w.snapshots ∙ omega arith
  inv_length (S ∷ Ts) i = let e = i.within in length-take w.history.snapshot w.snapshots ∙ omega arith

  module _ (given : List Bytes) (i : Inv session keep start w given) where
    formed : well_formed w.history w.snapshots w.deltas ≡ true
    formed = inv_formed session keep start w given i

    -- the session of the creation
    same_session : (s : Session) → is_session w.history s ≡ eqb s.0 (session_of session).0
    same_session s = rw (inv_frame given i).of_session

    inv_five : (s : Session) (asked : Serial) (out : Bytes) → refused_as (reply_of w (query s asked out)) ≡ refusal 5 0 0 ↔ ¬ (s.0 ≡ (session_of session).0)
    inv_five s asked out =
        let q = queries.five w.history s asked w.snapshots w.deltas (length out) in
        through (answer_refused (queried_in w s asked (length out)).answer OtherSession) (
          λ e. eqb-false s.0 (session_of session).0 (sym (same_session s) ∙ (q.0 e).1),
          λ n. q.1 (formed, same_session s ∙ ne_eqb s.0 (session_of session).0 n),
        )

    same_name : session_of w.history.session ≡ session_of session
    same_name = ap session_of (inv_frame given i).of_session

    -- the rule of the run's own counts
    same_served : (asked : Serial) → is_served w.history.start w.history.n asked (distance_of w.history.newest asked) ≡ is_served start (min keep (changes_in given)) asked (distance_of (serial_in start given) asked)
    same_served asked = rw ((inv_frame given i).of_start, inv_count given i, inv_serial given i)

    rule_of : (asked : Serial) → is_served w.history.start w.history.n asked (distance_of w.history.newest asked) ≡ true ↔ InRule keep start given asked
    rule_of asked = (
      λ e. served_rule start (min keep (changes_in given)) asked (distance_of (serial_in start given) asked) (sym (same_served asked) ∙ e),
      λ r. same_served asked ∙ rule_served start (min keep (changes_in given)) asked (distance_of (serial_in start given) asked) r,
    )

    unserved : (asked : Serial) → ¬ InRule keep start given asked → is_served w.history.start w.history.n asked (distance_of w.history.newest asked) ≡ false
    unserved asked n = go (is_served w.history.start w.history.n asked (distance_of w.history.newest asked)) refl
      where
        go : (b : Bool) → is_served w.history.start w.history.n asked (distance_of w.history.newest asked) ≡ b → b ≡ false
        go true e = absurd (n ((rule_of asked).0 e))
        go false e = refl

    inv_six : (s : Session) (asked : Serial) (out : Bytes) →
        refused_as (reply_of w (query s asked out)) ≡ refusal 6 0 0 ↔ (s.0 ≡ (session_of session).0) × ¬ InRule keep start given asked
    inv_six s asked out =
        let q = queries.six w.history s asked w.snapshots w.deltas (length out) in
        through (answer_refused (queried_in w s asked (length out)).answer NotServed) (
          λ e. (
            eqb-true s.0 (session_of session).0 (sym (same_session s) ∙ (q.0 e).1),
            λ r. true≢false (sym ((rule_of asked).1 r) ∙ (q.0 e).2),
          ),
          λ e. q.1 (formed, same_session s ∙ eq-eqb s.0 (session_of session).0 e.0, unserved asked e.1),
        )

    -- what a served query gets is what is due
    inv_due : (asked : Serial) → asked.0 < 2 ^ 32 → is_served w.history.start w.history.n asked (distance_of w.history.newest asked) ≡ true →
        answer_of w.history asked w.deltas ≡ due w start given asked
    inv_due asked l v = go given i
      where
        go : (given : List Bytes) → Inv session keep start w given → answer_of w.history asked w.deltas ≡ due w start given asked
        go [] i = waits_due i asked
        go (S ∷ Ts) i = answer_due i asked l v

    inv_four : (s : Session) (asked : Serial) (out : Bytes) → asked.0 < 2 ^ 32 →
        refused_as (reply_of w (query s asked out)) ≡ refusal 4 0 0
        ↔ (s.0 ≡ (session_of session).0) × InRule keep start given asked × (length out < length (due w start given asked))
    inv_four s asked out l =
        let q = queries.four w.history s asked w.snapshots w.deltas (length out) in
        through (answer_refused (queried_in w s asked (length out)).answer NoRoom) (
          λ e.
              let f = q.0 e in
              let k : length out < length (answer_of w.history asked w.deltas) = leb-false (length (answer_of w.history asked w.deltas)) (length out) f.3 in (
                eqb-true s.0 (session_of session).0 (sym (same_session s) ∙ f.1),
                (rule_of asked).0 f.2,
                rw (inv_due asked l f.2) at k,
              ),
          λ e.
              let v = (rule_of asked).1 e.1 in
              q.1 (
                formed,
                same_session s ∙ eq-eqb s.0 (session_of session).0 e.0,
                v,
                lt-leb (length (answer_of w.history asked w.deltas)) (length out) (rw (inv_due asked l v) e.2),
              ),
        )

    inv_serves : (s : Session) (asked : Serial) (out : Bytes) → asked.0 < 2 ^ 32 → s.0 ≡ (session_of session).0 → InRule keep start given asked →
        length (due w start given asked) ≤ length out →
        reply_of w (query s asked out)
        ≡ queried (record { session = session_of session; serial = serial_in start given; answer = Ok (counts_of (due w start given asked)) }) (written_over (due w start given asked) out)
    inv_serves s asked out l e r k =
        let v = (rule_of asked).1 r in
        let d = inv_due asked l v in
        let m : length (answer_of w.history asked w.deltas) ≤ length out = rw d k in
        let p = queries.serves w.history s asked w.snapshots w.deltas (length out) formed (same_session s ∙ eq-eqb s.0 (session_of session).0 e) v m in
        queried_path (p ∙ served_path same_name (inv_serial given i) d)
        (queries.out_whole w.history s asked w.snapshots w.deltas out (counts_of (answer_of w.history asked w.deltas)) (ap (λ (a : Queried). a.answer) p)
        ∙ ap (λ (x : Bytes). written_over x out) d)

    inv_ordered : (s : Session) (asked : Serial) (out : Bytes) (c : Counts) → asked.0 < 2 ^ 32 → (queried_in w s asked (length out)).answer ≡ Ok c →
        (standing asked (serial_in start given) ≡ Some ordering.Equal) ⊎ (standing asked (serial_in start given) ≡ Some ordering.Less)
    inv_ordered s asked out c l e =
        let f = inv_frame given i in
        rule_before keep start given asked f.least f.most f.bound l ((rule_of asked).0 (queries.found_served w.history s asked w.snapshots w.deltas out c e))

    inv_unordered : (s : Session) (asked : Serial) (out : Bytes) → asked.0 < 2 ^ 32 → s.0 ≡ (session_of session).0 → standing asked (serial_in start given) ≡ None →
        refused_as (reply_of w (query s asked out)) ≡ refusal 6 0 0
    inv_unordered s asked out l e u =
        let f = inv_frame given i in
        (inv_six s asked out).1 (e, rule_unordered keep start given asked f.least f.most f.bound l u)

    inv_notice : reply_of w notify ≡ noticed (record { session = session_of session; serial = serial_in start given })
    unfolding notify_of
    inv_notice = rw (← (inv_frame given i).of_session, ← inv_serial given i)

    inv_names : (s : Session) (asked : Serial) (out : Bytes) (c : Counts) → (queried_in w s asked (length out)).answer ≡ Ok c →
        ((queried_in w s asked (length out)).session ≡ session_of session) × ((queried_in w s asked (length out)).serial ≡ serial_in start given) × (c ≡ counts_of (written_in w s asked out c))
    inv_names s asked out c e =
        let q : queried_in w s asked (length out) ≡ served_with w.history (answer_of w.history asked w.deltas) = queries.answer_served w.history s asked w.snapshots w.deltas out c e in (
          ap (λ (a : Queried). a.session) q ∙ same_name,
          ap (λ (a : Queried). a.serial) q ∙ inv_serial given i,
          queries.counts_served w.history s asked w.snapshots w.deltas out c e ∙ ap counts_of (sym (queries.out_served w.history s asked w.snapshots w.deltas out c e)),
        )

    inv_whole : reply_of w full ≡ fully (record { session = session_of session; serial = serial_in start given; answer = Ok (length (current w)) })
    unfolding full_of
    inv_whole = rw (formed, ← (inv_frame given i).of_session, ← inv_serial given i, inv_length given i)

    inv_leads : (s : Session) (asked : Serial) (out : Bytes) (c : Counts) → asked.0 < 2 ^ 32 → ¬ (given ≡ []) → (queried_in w s asked (length out)).answer ≡ Ok c →
        Leads start given (current w) asked (written_in w s asked out c)
    inv_leads s asked out c l n e =
        rw (queries.out_served w.history s asked w.snapshots w.deltas out c e)
        (go given i n (queries.found_served w.history s asked w.snapshots w.deltas out c e))
      where
        go : (given : List Bytes) → Inv session keep start w given → ¬ (given ≡ []) → is_served w.history.start w.history.n asked (distance_of w.history.newest asked) ≡ true →
            Leads start given (current w) asked (answer_of w.history asked w.deltas)
        go [] i n q = absurd (n refl)
        go (S ∷ Ts) i n q = answer_leads i asked l q

  inv_mark : (given : List Bytes) → Inv session keep start w given → reply_of w ready ≡ is_ready true ↔ ¬ (given ≡ [])
  unfolding ready_of
  inv_mark [] i = (λ e. let p = i.active in never cc, λ n. absurd (n refl))
  inv_mark (S ∷ Ts) i = (λ e n. never cc, λ n. rw i.active)

  inv_current : (given : List Bytes) → Inv session keep start w given → (S : Bytes) (Ts : List Bytes) → given ≡ S ∷ Ts → current w ≡ newest S Ts
  inv_current given i S Ts e = let j : Holds session keep start w S Ts = rw e at i in j.current

-- demand 3, second part: over every run of calls from a fresh history
pub promise : EveryRun
promise session keep start snapshots deltas bound done calls octets =
    go (run_of (start_of session keep start snapshots deltas) calls)
    (run_inv session keep start (start_of session keep start snapshots deltas) calls octets (start_inv session keep start snapshots deltas bound done))
  where
    go : (r : Reached) → Inv session keep start r.world r.given → Promise session keep start r
    go r i = record {
      formed = formed session keep start r.world r.given i;
      no_seven = formed_seven r.world (formed session keep start r.world r.given i);
      stays = refused_stays r.world;
      serial = inv_serial session keep start r.world r.given i;
      newest_current = inv_current session keep start r.world r.given i;
      updates = inv_updates session keep start r.world r.given i;
      five = inv_five session keep start r.world r.given i;
      six = inv_six session keep start r.world r.given i;
      four = inv_four session keep start r.world r.given i;
      serves = inv_serves session keep start r.world r.given i;
      names = inv_names session keep start r.world r.given i;
      whole = inv_whole session keep start r.world r.given i;
      leads = inv_leads session keep start r.world r.given i;
      ordered = inv_ordered session keep start r.world r.given i;
      unordered = inv_unordered session keep start r.world r.given i;
      notice = inv_notice session keep start r.world r.given i;
      mark = inv_mark session keep start r.world r.given i;
    }
