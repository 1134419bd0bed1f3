-- What is promised of every run of calls from a fresh history: demand 3, second part.
use Rattle.std.specs.Prelude.{ℕ, ◌+◌, ◌-◌, ◌%◌, ◌^◌, ◌≤◌, ◌<◌, min, ◌≡◌, List, [], ◌∷◌, ◌++◌, map, true, ◌↔◌, ◌⊎◌, length, take, None, Ok, Err, Some}
use Rattle.std.proofs.Math.Option.{Option, none, some}
use Rattle.order.specs.Comparison.{bytes}
use Rattle.order.specs.Map as order
use Rattle.change.specs.Application.{Applies}
use Rattle.change.specs.History.{last_n, newest}
use Rattle.change.specs.Grouping.{steps}
use Rattle.serial.specs.declared.Serial.{Serial}
use Rattle.serial.specs.declared.Session.{Session}
use Rattle.serial.specs.Serial.{distance_of, session_of}
use Rattle.serial.specs.Rfc1982.{standing}
use Rattle.number.specs.Bytes.{AllBytes}
use Rattle.body.specs.declared.tag.Form.TheVariants.{Snapshot, Delta}
use Rattle.field.specs.Verdict.{verdict}
use Rattle.payload.specs.Content.{Bytes}
use Rattle.payload.specs.Payload.{items, changes}
use Rattle.payload.specs.Limit.{limit}
use Rattle.item.specs.declared.sink.Counts.{Counts}
use Rattle.fit.specs.Fit.{fit_of}
use Rattle.delta.specs.Refusal.{Values}
use Rattle.delta.specs.Answer.{difference_of, applied_of, counts_of}
use Rattle.delta.specs.Demand.{Acceptable}
use Rattle.payload.specs.Written.{written_over}
use Rattle.past.specs.declared.query.Queried.{Queried}
use Rattle.past.specs.Store.{total, held_snapshot}
use Rattle.past.specs.WellFormed.{well_formed}
use Rattle.past.specs.Create.{fresh_of, create_of}
use Rattle.past.specs.Query.{query_of, query_out}
use Rattle.past.specs.Run.{World, Call, update, query, full, notify, ready, updated, queried, fully, noticed, is_ready, reply_of, lent_to, left_in, step_of, numbered, refused_as, refusal, Reached, start_of, run_of, carried}
use Rattle.delta.specs.Admission.{Admitted}
use Rattle.field.specs.declared.verdict.Flaw.TheVariants as flaw
use Rattle.past.specs.declared.update.Update.TheVariants as outcome
use Rattle.std.specs.declared.cmp.Ordering.TheVariants as ordering

-- the new snapshot of an update is a list of bytes, good or not; of other calls nothing is asked
abbrev pub OfBytes : Call → Type 0
OfBytes (update new) = AllBytes new
OfBytes (query session asked out) = Unit {0}
OfBytes full = Unit {0}
OfBytes notify = Unit {0}
OfBytes ready = Unit {0}

-- each accepted snapshot but the first was a change
abbrev pub changes_in : List Bytes → ℕ
changes_in given = length given - 1

-- the start serial plus the count of changes, modulo 2^32
abbrev pub serial_in : Serial → List Bytes → Serial
serial_in start given = record { 0 = (start.0 + changes_in given) % 2 ^ 32 }

-- the current snapshot
abbrev pub current : World → Bytes
current w = held_snapshot w.history w.snapshots

-- ---- updates

-- the differences from each accepted snapshot to the next, oldest first
abbrev pub differences_in : List Bytes → List Bytes
differences_in [] = []
differences_in (S ∷ Ts) = steps difference_of S Ts

-- both stores have room: one for the new snapshot, one for the deltas that would then be held, which are the last `keep` differences
pub record Room (keep : ℕ) (w : World) (given : List Bytes) (new : Bytes) : Type 0 where
  pub snapshot : length new ≤ length w.snapshots
  pub deltas : total (map length (last_n keep (differences_in (given ++ (new ∷ []))))) ≤ length w.deltas

-- the new snapshot is the current one again
pub record Again (w : World) (given : List Bytes) (new : Bytes) : Type 0 where
  pub active : ¬ (given ≡ [])
  pub same : new ≡ current w

-- how an update with these bytes is answered
pub record Updates (keep : ℕ) (w : World) (given : List Bytes) (new : Bytes) : Type 0 where
  -- 10 exactly if it is over its length limit
  pub ten : refused_as (reply_of w (update new)) ≡ refusal 10 1 0 ↔ limit Snapshot < length new
  -- else 1, 12 or 2 exactly as the check finds its first bad field
  pub one : (at : ℕ) → refused_as (reply_of w (update new)) ≡ refusal 1 1 at ↔ (length new ≤ limit Snapshot) × (verdict Snapshot new ≡ Err (flaw.Bad at))
  pub twelve : (at : ℕ) → refused_as (reply_of w (update new)) ≡ refusal 12 1 at ↔ (length new ≤ limit Snapshot) × (verdict Snapshot new ≡ Err (flaw.Senseless at))
  pub two : (at : ℕ) → refused_as (reply_of w (update new)) ≡ refusal 2 1 at ↔ (length new ≤ limit Snapshot) × (verdict Snapshot new ≡ Err (flaw.NotAbove at))
  -- else 9 exactly if it is not the current snapshot and a store has no room
  pub nine : refused_as (reply_of w (update new)) ≡ refusal 9 0 0 ↔ Acceptable new × ¬ Again w given new × ¬ Room keep w given new
  -- "first" exactly while nothing was accepted, "unchanged" exactly for the current snapshot again, else "changed" with the difference's counts
  pub first : reply_of w (update new) ≡ updated (Ok outcome.First) ↔ Acceptable new × (given ≡ []) × Room keep w given new
  pub unchanged : reply_of w (update new) ≡ updated (Ok outcome.Unchanged) ↔ Again w given new
  pub changed : (c : Counts) → reply_of w (update new) ≡ updated (Ok (outcome.Changed c))
      ↔ Acceptable new × ¬ (given ≡ []) × ¬ (new ≡ current w) × Room keep w given new × (c ≡ counts_of (difference_of (current w) new))
  -- so a good snapshot within its limit for which both stores have room is never refused
  pub accepts : Acceptable new → Room keep w given new → refused_as (reply_of w (update new)) ≡ none

-- ---- queries

-- the serials that are served, where n deltas are held and the serial s is d steps before the newest
pub data Rule (start n s d : ℕ) : Type 0 where
  none_held : n ≡ 0 → s ≡ start → Rule start n s d
  some_held : 1 ≤ n → d ≤ n → Rule start n s d

-- by the counts of a run
abbrev pub InRule : ℕ → Serial → List Bytes → Serial → Type 0
InRule keep start given asked = Rule start.0 (min keep (changes_in given)) asked.0 (distance_of (serial_in start given) asked)

-- what is due to a serial: the difference from the snapshot that most recently carried it; while there is none, nothing
abbrev pub difference_from : Option Bytes → Bytes → Bytes
difference_from none now = []
difference_from (some base) now = difference_of base now

abbrev pub due : World → Serial → List Bytes → Serial → Bytes
due w start given asked = difference_from (carried start asked given) (current w)

-- an answer that can be applied to the snapshot that most recently carried the serial asked for, and yields the current one
pub record Leads (start : Serial) (given : List Bytes) (now : Bytes) (asked : Serial) (answer : Bytes) : Type 0 where
  pub base : Bytes
  pub most_recent : carried start asked given ≡ some base
  pub applies : Applies bytes bytes (items base) (changes answer)
  pub fits : fit_of base answer ≡ None
  pub yields : applied_of base answer ≡ now
  pub exact : answer ≡ difference_of base now

-- what a query gets in a world
abbrev pub queried_in : World → Session → Serial → ℕ → Queried
queried_in w s asked room = query_of w.history s asked w.snapshots w.deltas room

-- what a served query has written into the output that it was lent
abbrev pub written_in : World → Session → Serial → Bytes → Counts → Bytes
written_in w s asked out c = take c.len (query_out w.history s asked w.snapshots w.deltas out)

-- ---- every run

-- what is answered to a creation
abbrev pub refused_creation : Admitted → Option Values
refused_creation (Ok tt) = none
refused_creation (Err r) = numbered (some r)

pub record Creates (session keep : ℕ) (start : Serial) (snapshots deltas : Bytes) : Type 0 where
  -- 8 exactly for a keep that is not 1 to 64, else 10 exactly for a store over its limit, the first one first
  pub eight : refused_creation (create_of session keep start snapshots deltas).answer ≡ refusal 8 0 0 ↔ ¬ ((1 ≤ keep) × (keep ≤ 64))
  pub ten_first : refused_creation (create_of session keep start snapshots deltas).answer ≡ refusal 10 1 0
      ↔ (1 ≤ keep) × (keep ≤ 64) × (limit Snapshot < length snapshots)
  pub ten_second : refused_creation (create_of session keep start snapshots deltas).answer ≡ refusal 10 2 0
      ↔ (1 ≤ keep) × (keep ≤ 64) × (length snapshots ≤ limit Snapshot) × (limit Delta < length deltas)
  -- else a fresh history
  pub done : (1 ≤ keep) → (keep ≤ 64) → (length snapshots ≤ limit Snapshot) → (length deltas ≤ limit Delta) →
      create_of session keep start snapshots deltas ≡ record { answer = Ok tt; history = fresh_of session keep start }

pub record Promise (session keep : ℕ) (start : Serial) (r : Reached) : Type 0 where
  -- the history stays well formed with its stores, so that refusal 7 never comes
  pub formed : well_formed r.world.history r.world.snapshots r.world.deltas ≡ true
  pub no_seven : (c : Call) → ¬ (refused_as (reply_of r.world c) ≡ refusal 7 0 0)
  -- a refused call leaves the history, both stores and the output lent to it as they were
  pub stays : (c : Call) (x : Values) → refused_as (reply_of r.world c) ≡ some x →
      (step_of r.world c ≡ r.world) × (left_in (reply_of r.world c) ≡ lent_to c)
  -- F is the start serial plus the count of changes, modulo 2^32, and the newest snapshot is the current one
  pub serial : r.world.history.newest ≡ serial_in start r.given
  pub newest_current : (S : Bytes) (Ts : List Bytes) → r.given ≡ S ∷ Ts → current r.world ≡ newest S Ts
  -- each update is accepted or refused as document 01 says
  pub updates : (new : Bytes) → AllBytes new → Updates keep r.world r.given new
  -- a query is refused with 5 exactly for another session
  pub five : (s : Session) (asked : Serial) (out : Bytes) →
      refused_as (reply_of r.world (query s asked out)) ≡ refusal 5 0 0 ↔ ¬ (s.0 ≡ (session_of session).0)
  -- else with 6 exactly for a serial that is not served by the rule
  pub six : (s : Session) (asked : Serial) (out : Bytes) →
      refused_as (reply_of r.world (query s asked out)) ≡ refusal 6 0 0 ↔ (s.0 ≡ (session_of session).0) × ¬ InRule keep start r.given asked
  -- else with 4 exactly if what is due is longer than the output
  pub four : (s : Session) (asked : Serial) (out : Bytes) → asked.0 < 2 ^ 32 →
      refused_as (reply_of r.world (query s asked out)) ≡ refusal 4 0 0
      ↔ (s.0 ≡ (session_of session).0) × InRule keep start r.given asked × (length out < length (due r.world start r.given asked))
  -- else it is served: the 16-bit session, F, the length and counts of what is due, and its bytes, then the output as it was
  pub serves : (s : Session) (asked : Serial) (out : Bytes) → asked.0 < 2 ^ 32 → s.0 ≡ (session_of session).0 → InRule keep start r.given asked →
      length (due r.world start r.given asked) ≤ length out →
      reply_of r.world (query s asked out)
      ≡ queried (record { session = session_of session; serial = serial_in start r.given; answer = Ok (counts_of (due r.world start r.given asked)) })
      (written_over (due r.world start r.given asked) out)
  -- a served query's answer names the 16-bit session and F, and the length and counts of what it has written
  pub names : (s : Session) (asked : Serial) (out : Bytes) (c : Counts) → (queried_in r.world s asked (length out)).answer ≡ Ok c →
      ((queried_in r.world s asked (length out)).session ≡ session_of session) × ((queried_in r.world s asked (length out)).serial ≡ serial_in start r.given)
      × (c ≡ counts_of (written_in r.world s asked out c))
  -- once a first snapshot is accepted, what a served query has written leads to the current snapshot
  pub leads : (s : Session) (asked : Serial) (out : Bytes) (c : Counts) → asked.0 < 2 ^ 32 → ¬ (r.given ≡ []) →
      (queried_in r.world s asked (length out)).answer ≡ Ok c →
      Leads start r.given (current r.world) asked (written_in r.world s asked out c)
  -- by RFC 1982 a serial that is served is equal to the newest one or before it
  pub ordered : (s : Session) (asked : Serial) (out : Bytes) (c : Counts) → asked.0 < 2 ^ 32 → (queried_in r.world s asked (length out)).answer ≡ Ok c →
      (standing asked (serial_in start r.given) ≡ Some ordering.Equal) ⊎ (standing asked (serial_in start r.given) ≡ Some ordering.Less)
  -- so one that is unordered with the newest is refused with 6
  pub unordered : (s : Session) (asked : Serial) (out : Bytes) → asked.0 < 2 ^ 32 → s.0 ≡ (session_of session).0 →
      standing asked (serial_in start r.given) ≡ None → refused_as (reply_of r.world (query s asked out)) ≡ refusal 6 0 0
  -- the full answer names the 16-bit session and F too, with the current snapshot; so does the notice; the mark says whether one was accepted
  pub whole : reply_of r.world full ≡ fully (record { session = session_of session; serial = serial_in start r.given; answer = Ok (length (current r.world)) })
  pub notice : reply_of r.world notify ≡ noticed (record { session = session_of session; serial = serial_in start r.given })
  pub mark : reply_of r.world ready ≡ is_ready true ↔ ¬ (r.given ≡ [])

-- of every run of calls from a creation that is done
abbrev pub EveryRun : Type 0
EveryRun = (session keep : ℕ) (start : Serial) (snapshots deltas : Bytes) → start.0 < 2 ^ 32 → (create_of session keep start snapshots deltas).answer ≡ Ok tt →
    (calls : List Call) → order.All OfBytes calls → Promise session keep start (run_of (start_of session keep start snapshots deltas) calls)
