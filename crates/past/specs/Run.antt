-- Runs of calls: each is handed the state and the stores that the one before left.
use Rattle.std.specs.Prelude.{ℕ, Bool, cond, eqb, length, Err, Ok, Result}
use mathlib.Core.List.{List, [], ◌∷◌, ◌++◌, foldl}
use Rattle.std.proofs.Math.Option.{Option, none, some}
use Rattle.serial.specs.declared.Serial.{Serial}
use Rattle.serial.specs.declared.Session.{Session}
use Rattle.serial.specs.Serial.{next_of}
use Rattle.payload.specs.Content.{Bytes}
use Rattle.delta.specs.declared.refusal.Refusal.{Refusal}
use Rattle.delta.specs.Refusal.{Values, values_of}
use Rattle.past.specs.declared.state.History.{History}
use Rattle.past.specs.declared.query.Queried.{Queried}
use Rattle.past.specs.declared.full.Full.{Full}
use Rattle.past.specs.declared.notify.Notice.{Notice}
use Rattle.past.specs.Create.{create_of}
use Rattle.past.specs.Update.{update_of, update_snapshots, update_deltas}
use Rattle.past.specs.Query.{query_of, query_out}
use Rattle.past.specs.Full.{full_of, notify_of, ready_of}
use Rattle.item.specs.declared.sink.Counts.{Counts}
use Rattle.past.specs.declared.update.Update.TheVariants as outcome
use Rattle.past.specs.declared.update.Update.{Update}

-- a history and its two stores
pub record World : Type 0 where
  pub history : History
  pub snapshots : Bytes
  pub deltas : Bytes

-- a query brings the output that it is lent
pub data Call : Type 0 where
  update : (new : Bytes) → Call
  query : (session : Session) (asked : Serial) (out : Bytes) → Call
  full : Call
  notify : Call
  ready : Call

-- what a call answers; a query's output afterwards
pub data Reply : Type 0 where
  updated : Result Update Refusal → Reply
  queried : Queried → (out : Bytes) → Reply
  fully : Full → Reply
  noticed : Notice → Reply
  is_ready : (active : Bool) → Reply

abbrev pub reply_of : World → Call → Reply
reply_of w (update new) = updated (update_of w.history new w.snapshots w.deltas).answer
reply_of w (query session asked out) =
    queried (query_of w.history session asked w.snapshots w.deltas (length out))
    (query_out w.history session asked w.snapshots w.deltas out)
reply_of w full = fully (full_of w.history w.snapshots w.deltas)
reply_of w notify = noticed (notify_of w.history)
reply_of w ready = is_ready (ready_of w.history)

-- the output lent to a call: to a query alone
abbrev pub lent_to : Call → Bytes
lent_to (update new) = []
lent_to (query session asked out) = out
lent_to full = []
lent_to notify = []
lent_to ready = []

-- and that output afterwards
abbrev pub left_in : Reply → Bytes
left_in (updated a) = []
left_in (queried q out) = out
left_in (fully f) = []
left_in (noticed n) = []
left_in (is_ready active) = []

-- what a call leaves
abbrev pub step_of : World → Call → World
step_of w (update new) = record {
  history = (update_of w.history new w.snapshots w.deltas).history;
  snapshots = update_snapshots w.history new w.snapshots w.deltas;
  deltas = update_deltas w.history new w.snapshots w.deltas;
}
step_of w (query session asked out) = w
step_of w full = w
step_of w notify = w
step_of w ready = w

-- a reply's refusal, if it is one
abbrev pub refused_update : Result Update Refusal → Option Refusal
refused_update (Ok outcome.First) = none
refused_update (Ok outcome.Unchanged) = none
refused_update (Ok (outcome.Changed counts)) = none
refused_update (Err r) = some r

abbrev pub refused_answer : Result Counts Refusal → Option Refusal
refused_answer (Err r) = some r
refused_answer (Ok counts) = none

abbrev pub refused_full : Result ℕ Refusal → Option Refusal
refused_full (Err r) = some r
refused_full (Ok len) = none

abbrev pub refusal_in : Reply → Option Refusal
refusal_in (updated a) = refused_update a
refusal_in (queried q out) = refused_answer q.answer
refusal_in (fully f) = refused_full f.answer
refusal_in (noticed n) = none
refusal_in (is_ready active) = none

-- and that in document 01's numbers
abbrev pub numbered : Option Refusal → Option Values
numbered none = none
numbered (some r) = some (values_of r)

abbrev pub refused_as : Reply → Option Values
refused_as reply = numbered (refusal_in reply)

-- number, argument, offset
abbrev pub refusal : ℕ → ℕ → ℕ → Option Values
refusal number argument offset = some (record { number = number; argument = argument; offset = offset })

-- where a run has come: a world, and the snapshots that were accepted so far, oldest first, without those that changed nothing
pub record Reached : Type 0 where
  pub world : World
  pub given : List Bytes

abbrev pub given_by : Result Update Refusal → Bytes → List Bytes → List Bytes
given_by (Ok outcome.First) new given = given ++ (new ∷ [])
given_by (Ok outcome.Unchanged) new given = given
given_by (Ok (outcome.Changed counts)) new given = given ++ (new ∷ [])
given_by (Err r) new given = given

abbrev pub given_after : World → Call → List Bytes → List Bytes
given_after w (update new) given = given_by (update_of w.history new w.snapshots w.deltas).answer new given
given_after w (query session asked out) given = given
given_after w full given = given
given_after w notify given = given
given_after w ready given = given

abbrev pub onward : Reached → Call → Reached
onward r c = record { world = step_of r.world c; given = given_after r.world c r.given }

-- a fresh history, lent these stores
abbrev pub start_of : ℕ → ℕ → Serial → Bytes → Bytes → Reached
start_of session keep start snapshots deltas = record {
  world = record { history = (create_of session keep start snapshots deltas).history; snapshots = snapshots; deltas = deltas };
  given = [];
}

-- the calls, one after the other
abbrev pub run_of : Reached → List Call → Reached
run_of = foldl onward

-- what stands later, or else this
abbrev pub or_last : Option Bytes → Option Bytes → Option Bytes
or_last none o = o
or_last (some s) o = some s

-- the snapshot that most recently carried the serial asked for, of those accepted so far: the first carried the start serial,
-- and each later one the serial after
abbrev pub carried : Serial → Serial → List Bytes → Option Bytes
carried start asked [] = none
carried start asked (s ∷ ss) =
    or_last (carried (next_of start) asked ss) (cond (eqb start.0 asked.0) (some s) none)
