-- Demand 3 carried to the wire.
use Prim.Native.Nat.{ℕ, ◌-◌, ◌^◌, ◌<◌}
use mathlib.Core.Path.{◌≡◌, refl, sym, ap, ap₂, ◌∙◌}
use mathlib.Core.List.{[], map}
use mathlib.Core.Bool.{Bool, true, false, cond}
use native.Mathlib.Omega.{arith}
use borrow.Author.Tests.{le-leb}
use lib.Dec.{leb}
use lib.ListN.{length, take, drop}
use lib.Seq.{take_at}
use Rattle.order.specs.Comparison.{bytes}
use Rattle.order.specs.Map.{All}
use Rattle.order.proofs.Never.{never}
use Rattle.order.proofs.Comparison.{strings}
use Rattle.change.specs.Difference as change
use Rattle.change.specs.Difference.{diff}
use Rattle.change.specs.History.{last_n}
use Rattle.change.proofs.Whole.{yields, applies}
use Rattle.change.proofs.Chain.{all_drop}
use Rattle.serial.specs.declared.Serial.{Serial}
use Rattle.serial.specs.declared.Session.{Session}
use Rattle.serial.specs.declared.timing.Timing.{Timing}
use Rattle.serial.specs.Serial.{zero_session, distance_of, session_of}
use Rattle.serial.specs.Timing.{timing_of}
use Rattle.serial.proofs.Bounds.{intervals}
use Rattle.body.specs.declared.tag.Form.TheVariants.{Snapshot, Delta}
use Rattle.payload.specs.Content.{Bytes}
use Rattle.payload.specs.Written.{written_over}
use Rattle.payload.specs.Payload.{entries, items, changes}
use Rattle.payload.specs.Valid.{IsMap}
use Rattle.payload.proofs.Faithful.{faithful, entries_end}
use Rattle.payload.proofs.Closed.{diff_map, merge_all_map}
use Rattle.message.specs.declared.version.Version.{Version}
use Rattle.message.specs.declared.version.Version.TheVariants.{Rfc6810, Rfc8210}
use Rattle.message.specs.Message.{cache_reset, pdu, pdus}
use Rattle.message.specs.Say.{spoken, answer}
use Rattle.message.specs.Take.{all}
use Rattle.delta.specs.declared.refusal.Refusal.{Refusal}
use Rattle.delta.specs.declared.refusal.Refusal.TheVariants.{NoRoom, IllFormed}
use Rattle.delta.specs.Answer.{difference_of, counts_of}
use Rattle.delta.specs.Demand.{GoodSnapshot}
use Rattle.delta.proofs.Differences.{empty_good, good_map}
use Rattle.past.specs.declared.state.History.{History}
use Rattle.past.specs.Store.{held_deltas}
use Rattle.past.specs.WellFormed.{well_formed}
use Rattle.past.specs.Query.{is_served, is_session, merged_last, answer_of, query_of, query_out}
use Rattle.past.specs.Full.{notify_of}
use Rattle.past.specs.Run.{World, Reply, noticed, updated, queried, fully, is_ready, Reached, start_of, run_of}
use Rattle.past.specs.Promise.{serial_in, current, queried_in, written_in, Promise}
use Rattle.past.proofs.Lists.{all_map}
use Rattle.past.proofs.Runs.{promise}
use Rattle.past.proofs.Given.{given_good, all_carried, good_current}
use Rattle.merged.specs.Place.{IsFine}
use Rattle.history.proofs.Asking.{formed_stored}
use Rattle.wire.specs.declared.tally.Tally.{Tally}
use Rattle.wire.specs.declared.frame.Frame.{Frame}
use Rattle.wire.specs.Answer.{Plan, refuse, aside, refused_with, report_bytes, frame_of, answer_bytes, tally_of, sent_at, out_at, data_plan, reset_plan, report_plan, changes_since, query_plan, all_new, full_plan}
use Rattle.router.specs.Send.{TimesFit}
use Rattle.router.specs.Heard.{Spoken, told_from}
use Rattle.router.specs.Promise.{LeadsOn, Home, query_in, full_in, written, Wire, EveryWire}
use Rattle.router.proofs.Heard.{hear_answer, told_items_lem}
use Rattle.router.proofs.Routers.{router_takes, spoken_all}
use Rattle.router.proofs.Octets.{item_bytes, diff_bytes}
use Rattle.std.specs.Prelude.{Ok}
use Rattle.wire.specs.declared.sent.Reply.TheVariants as reply

-- ---- which plan writes data, and what it has written then

module _ (v : Version) (f : Frame) (D : change.Delta Bytes Bytes) (out : Bytes) (t : Tally) where
  abbrev whole : Bytes
  whole = answer_bytes v f D

  data_written : (sent_at (data_plan v f D) (length out)).reply ≡ Ok (reply.Data t) → take t.len (out_at (data_plan v f D) out) ≡ whole
  unfolding sent_at out_at data_plan
  data_written = go (leb (length whole) (length out))
    where
      go : (b : Bool) → (cond b (record { session = f.session; serial = f.serial; reply = Ok (reply.Data (tally_of v whole D)) }) (refused_with NoRoom)).reply ≡ Ok (reply.Data t) →
          take t.len (cond b (written_over whole out) out) ≡ whole
      go true h = let e : tally_of v whole D ≡ t = cc in take_at whole (drop (length whole) out) t.len (ap (λ (x : Tally). x.len) e)
      go false h = never cc

reset_no : {A : Type 0} (v : Version) (n : ℕ) (t : Tally) → (sent_at (reset_plan v) n).reply ≡ Ok (reply.Data t) → A
unfolding sent_at reset_plan
reset_no v n t = go (leb (length (pdu v cache_reset)) n)
  where
    go : {A : Type 0} (b : Bool) → (cond b (aside (Ok (reply.Reset (length (pdu v cache_reset))))) (refused_with NoRoom)).reply ≡ Ok (reply.Data t) → A
    go true h = never cc
    go false h = never cc

report_no : {A : Type 0} (v : Version) (s : Session) (q : Serial) (n : ℕ) (t : Tally) → (sent_at (report_plan v s q) n).reply ≡ Ok (reply.Data t) → A
unfolding sent_at report_plan
report_no v s q n t = go (leb (length (report_bytes v s q)) n)
  where
    go : {A : Type 0} (b : Bool) → (cond b (aside (Ok (reply.Report (length (report_bytes v s q))))) (refused_with NoRoom)).reply ≡ Ok (reply.Data t) → A
    go true h = never cc
    go false h = never cc

refuse_no : {A : Type 0} (r : Refusal) (n : ℕ) (t : Tally) → (sent_at (refuse r) n).reply ≡ Ok (reply.Data t) → A
unfolding sent_at
refuse_no r n t h = never cc

-- a query that gets data passed all tests
pub record Passed (v : Version) (h : History) (s : Session) (asked : Serial) (times : Timing) (snapshots deltas out : Bytes) (t : Tally) : Type 0 where
  pub formed : well_formed h snapshots deltas ≡ true
  pub session : is_session h s ≡ true
  pub served : is_served h.start h.n asked (distance_of h.newest asked) ≡ true
  pub wrote : take t.len (out_at (query_plan v h s asked times snapshots deltas) out) ≡ answer_bytes v (frame_of h times) (changes_since h asked deltas)

query_passed : (v : Version) (h : History) (s : Session) (asked : Serial) (times : Timing) (snapshots deltas out : Bytes) (t : Tally) →
    (sent_at (query_plan v h s asked times snapshots deltas) (length out)).reply ≡ Ok (reply.Data t) → Passed v h s asked times snapshots deltas out t
unfolding query_plan
query_passed v h s asked times snapshots deltas out t =
    go (well_formed h snapshots deltas) refl (is_session h s) refl (is_served h.start h.n asked (distance_of h.newest asked)) refl
  where
    plan : Bool → Bool → Bool → Plan
    plan a b c = cond a (cond b (cond c (data_plan v (frame_of h times) (changes_since h asked deltas)) (reset_plan v)) (report_plan v s asked)) (refuse IllFormed)

    go : (a : Bool) → well_formed h snapshots deltas ≡ a → (b : Bool) → is_session h s ≡ b → (c : Bool) → is_served h.start h.n asked (distance_of h.newest asked) ≡ c →
        (sent_at (plan a b c) (length out)).reply ≡ Ok (reply.Data t) → Passed v h s asked times snapshots deltas out t
    go true e true f true g q = record {
      formed = e;
      session = f;
      served = g;
      wrote = rw (e, f, g) (data_written v (frame_of h times) (changes_since h asked deltas) out t q);
    }
    go true e true f false g q = reset_no v (length out) t q
    go true e false f c g q = report_no v s asked (length out) t q
    go false e b f c g q = refuse_no IllFormed (length out) t q

-- the times handed out have four bytes
times_fit : (v : Version) (times : Timing) → TimesFit v (timing_of times)
times_fit Rfc6810 times = tt
times_fit Rfc8210 times = let i = (intervals times).allowed in (omega (arith, i.refresh_high), omega (arith, i.retry_high), omega (arith, i.expire_high))

-- ---- what is heard of a difference

module _ (v : Version) (session : ℕ) (serial : Serial) (times : Timing) (bound : serial.0 < 2 ^ 32) (base now : Bytes) (gb : GoodSnapshot base) (gn : GoodSnapshot now) where
  abbrev A : change.Snapshot Bytes Bytes
  A = items base

  abbrev C : change.Snapshot Bytes Bytes
  C = items now

  map_a : IsMap Snapshot A
  map_a = good_map base gb

  map_c : IsMap Snapshot C
  map_c = good_map now gn

  map_d : IsMap Delta (diff bytes bytes A C)
  map_d = diff_map A C map_a map_c

  said : All (Spoken v) (spoken v (diff bytes bytes A C))
  said = spoken_all v (diff bytes bytes A C) map_d.valid (diff_bytes A C (item_bytes base gb.octets gb.fine) (item_bytes now gn.octets gn.fine))

  leads_on : LeadsOn v session serial times base now (pdus v (answer v (session_of session).0 serial.0 (timing_of times) (diff bytes bytes A C)))
  leads_on = record {
    reads = record {
      told = told_from v 8 (spoken v (diff bytes bytes A C));
      heard = hear_answer v (session_of session).0 serial.0 (timing_of times) (omega arith) bound (times_fit v times) (diff bytes bytes A C) said;
      items = told_items_lem v 8 (spoken v (diff bytes bytes A C));
    };
    taken = router_takes v A (diff bytes bytes A C) map_a.sorted map_d.sorted (told_from v 8 (spoken v (diff bytes bytes A C))) (told_items_lem v 8 (spoken v (diff bytes bytes A C)))
        (applies strings strings A C map_a.sorted map_c.sorted)
        ∙ ap (λ (x : change.Snapshot Bytes Bytes). all (spoken v x)) (yields strings strings A C map_a.sorted map_c.sorted);
  }

-- ---- the merge of the held deltas is the difference

held_maps : (h : History) (snapshots deltas : Bytes) (d : ℕ) → well_formed h snapshots deltas ≡ true → All (IsMap Delta) (map changes (last_n d (held_deltas h deltas)))
held_maps h snapshots deltas d e =
    all_map changes IsFine (IsMap Delta) (λ x f. (faithful Delta).map_of x f) (last_n d (held_deltas h deltas))
    (all_drop IsFine (length (held_deltas h deltas) - d) (held_deltas h deltas) (formed_stored h snapshots deltas e).good)

since_is : (h : History) (asked : Serial) (snapshots deltas base now : Bytes) → well_formed h snapshots deltas ≡ true → GoodSnapshot base → GoodSnapshot now →
    answer_of h asked deltas ≡ difference_of base now → changes_since h asked deltas ≡ diff bytes bytes (items base) (items now)
unfolding merged_last difference_of
since_is h asked snapshots deltas base now e gb gn q =
    let m : IsMap Delta (changes_since h asked deltas) = merge_all_map (map changes (last_n (distance_of h.newest asked) (held_deltas h deltas))) (held_maps h snapshots deltas (distance_of h.newest asked) e) in
    let n : IsMap Delta (diff bytes bytes (items base) (items now)) = diff_map (items base) (items now) ((faithful Snapshot).map_of base gb.fine) ((faithful Snapshot).map_of now gn.fine) in
    sym ((faithful Delta).map_back (changes_since h asked deltas) m) ∙ ap (entries Delta) q ∙ (faithful Delta).map_back (diff bytes bytes (items base) (items now)) n

-- ---- every run

-- the session of a notice
abbrev named : Reply → Session
named (updated a) = zero_session
named (queried q out) = zero_session
named (fully f) = zero_session
named (noticed n) = n.session
named (is_ready active) = zero_session

module _ (v : Version) (session keep : ℕ) (start : Serial) (r : Reached) (p : Promise session keep start r) (goods : All GoodSnapshot r.given) (times : Timing) where
  abbrev w : World
  w = r.world

  abbrev h : History
  h = r.world.history

  abbrev F : Serial
  F = serial_in start r.given

  own : session_of h.session ≡ session_of session
  unfolding notify_of
  own = ap named p.notice

  F-bound : F.0 < 2 ^ 32
  F-bound = omega arith

  bytes_are : (D : change.Delta Bytes Bytes) → answer_bytes v (frame_of h times) D ≡ pdus v (answer v (session_of session).0 F.0 (timing_of times) D)
  bytes_are D = ap₂ (λ (s : Session) (n : Serial). pdus v (answer v s.0 n.0 (timing_of times) D)) own p.serial

  module _ (s : Session) (asked : Serial) (f : well_formed h w.snapshots w.deltas ≡ true) (u : is_session h s ≡ true)
      (g : is_served h.start h.n asked (distance_of h.newest asked) ≡ true) where
    abbrev ans : Bytes
    ans = answer_of h asked w.deltas

    served : (queried_in w s asked (length ans)).answer ≡ Ok (counts_of ans)
    unfolding query_of
    served = let l : leb (length ans) (length ans) ≡ true = le-leb (length ans) (length ans) (omega arith) in rw (f, u, g, l)

    left : written_in w s asked ans (counts_of ans) ≡ ans
    unfolding query_out
    left =
        let l : leb (length ans) (length ans) ≡ true = le-leb (length ans) (length ans) (omega arith) in
        rw (f, u, g, l) (take_at ans (drop (length ans) ans) (length ans) refl)

  query_home : (s : Session) (asked : Serial) (out : Bytes) (t : Tally) → asked.0 < 2 ^ 32 → ¬ (r.given ≡ []) → (sent_at (query_in v w s asked times) (length out)).reply ≡ Ok (reply.Data t) →
      Home v session start r.given (current w) asked times (written (query_in v w s asked times) out t)
  query_home s asked out t b n q =
      let x = query_passed v h s asked times w.snapshots w.deltas out t q in
      let l = p.leads s asked (ans s asked x.formed x.session x.served) (counts_of (answer_of h asked w.deltas)) b n (served s asked x.formed x.session x.served) in
      let gb : GoodSnapshot l.base = all_carried GoodSnapshot start asked r.given l.base goods l.most_recent in
      let gn : GoodSnapshot (current w) = good_current session keep start r p goods n in
      let d : changes_since h asked w.deltas ≡ diff bytes bytes (items l.base) (items (current w)) =
      since_is h asked w.snapshots w.deltas l.base (current w) x.formed gb gn (sym (left s asked x.formed x.session x.served) ∙ l.exact) in
      let e : written (query_in v w s asked times) out t ≡ pdus v (answer v (session_of session).0 F.0 (timing_of times) (diff bytes bytes (items l.base) (items (current w)))) =
      x.wrote ∙ bytes_are (changes_since h asked w.deltas) ∙ ap (λ (D : change.Delta Bytes Bytes). pdus v (answer v (session_of session).0 F.0 (timing_of times) D)) d in
      record { base = l.base; most_recent = l.most_recent; leads = rw e (leads_on v session F times F-bound l.base (current w) gb gn) }

  full_wrote : (out : Bytes) (t : Tally) → (sent_at (full_in v w times) (length out)).reply ≡ Ok (reply.Data t) →
      written (full_in v w times) out t ≡ answer_bytes v (frame_of h times) (all_new (current w))
  unfolding full_plan
  full_wrote out t = go (well_formed h w.snapshots w.deltas)
    where
      go : (a : Bool) → (sent_at (cond a (data_plan v (frame_of h times) (all_new (current w))) (refuse IllFormed)) (length out)).reply ≡ Ok (reply.Data t) →
          take t.len (out_at (cond a (data_plan v (frame_of h times) (all_new (current w))) (refuse IllFormed)) out) ≡ answer_bytes v (frame_of h times) (all_new (current w))
      go true q = data_written v (frame_of h times) (all_new (current w)) out t q
      go false q = refuse_no IllFormed (length out) t q

  full_home : (out : Bytes) (t : Tally) → ¬ (r.given ≡ []) → (sent_at (full_in v w times) (length out)).reply ≡ Ok (reply.Data t) →
      LeadsOn v session F times [] (current w) (written (full_in v w times) out t)
  full_home out t n q =
      let z : items [] ≡ [] = entries_end Snapshot in
      let e : written (full_in v w times) out t ≡ pdus v (answer v (session_of session).0 F.0 (timing_of times) (diff bytes bytes (items []) (items (current w)))) =
      full_wrote out t q ∙ bytes_are (all_new (current w))
      ∙ ap (λ (B : change.Snapshot Bytes Bytes). pdus v (answer v (session_of session).0 F.0 (timing_of times) (diff bytes bytes B (items (current w))))) (sym z) in
      rw e (leads_on v session F times F-bound [] (current w) empty_good (good_current session keep start r p goods n))

-- in any version, over every run of calls from a fresh history
pub wire : EveryWire
wire v session keep start snapshots deltas bound done calls octets =
    go (run_of (start_of session keep start snapshots deltas) calls)
    (promise session keep start snapshots deltas bound done calls octets)
    (given_good (start_of session keep start snapshots deltas) calls octets tt)
  where
    go : (r : Reached) → Promise session keep start r → All GoodSnapshot r.given → Wire v session start r
    go r p g = record {
      query = λ s asked times out t. query_home v session keep start r p g times s asked out t;
      full = λ times out t. full_home v session keep start r p g times out t;
    }
