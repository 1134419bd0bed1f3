-- Runs of the exported calls: the host hands each the state and the stores that the one before left.
use Rattle.std.specs.Prelude.{ℕ, ◌^◌, ◌<◌, ◌≡◌, Bool, length}
use mathlib.Core.List.{List, foldl}
use Rattle.order.specs.Map.{All}
use Rattle.serial.specs.declared.Serial.{Serial}
use Rattle.payload.specs.Content.{Bytes}
use Rattle.past.specs.declared.notify.Notice.{Notice}
use Rattle.past.specs.Create.{create_of}
use Rattle.past.specs.Update.{update_of, update_snapshots, update_deltas}
use Rattle.past.specs.Query.{query_of, query_out}
use Rattle.past.specs.Full.{full_of, notify_of, ready_of}
use Rattle.past.specs.Run.{World, Call, update, query, full, notify, ready, Reply, updated, queried, fully, noticed, is_ready, reply_of, step_of, Reached, start_of, run_of}
use Rattle.past.specs.Promise.{OfBytes, Promise}
use Rattle.host.specs.declared.answer.Answer.{Answer}
use Rattle.host.specs.declared.state.State.{State}
use Rattle.host.specs.declared.told.Told.{Told}
use Rattle.host.specs.State.{history_of}
use Rattle.host.specs.Told.{made_created, flat_update, made_updated, told_queried, told_full}

-- what the host keeps: the state and the two stores
pub record Kept : Type 0 where
  pub state : State
  pub snapshots : Bytes
  pub deltas : Bytes

-- what an exported call hands back beside the state: the answer; a query's output afterwards
pub data Handed : Type 0 where
  answer : Answer → Handed
  told : Told → (out : Bytes) → Handed
  whole : Told → Handed
  notice : Notice → Handed
  mark : Bool → Handed

-- each call by the contract of the exported function: taplevung_update, _query, _full, _notify, _ready
abbrev pub handed_of : Kept → Call → Handed
handed_of k (update new) = answer (made_updated k.state (update_of (history_of k.state) new k.snapshots k.deltas)).answer
handed_of k (query session asked out) =
    told (told_queried (query_of (history_of k.state) session asked k.snapshots k.deltas (length out)))
    (query_out (history_of k.state) session asked k.snapshots k.deltas out)
handed_of k full = whole (told_full (full_of (history_of k.state) k.snapshots k.deltas))
handed_of k notify = notice (notify_of (history_of k.state))
handed_of k ready = mark (ready_of (history_of k.state))

-- what a call leaves to the next
abbrev pub kept_after : Kept → Call → Kept
kept_after k (update new) = record {
  state = (made_updated k.state (update_of (history_of k.state) new k.snapshots k.deltas)).state;
  snapshots = update_snapshots (history_of k.state) new k.snapshots k.deltas;
  deltas = update_deltas (history_of k.state) new k.snapshots k.deltas;
}
kept_after k (query session asked out) = k
kept_after k full = k
kept_after k notify = k
kept_after k ready = k

-- what taplevung_create leaves, with the stores that it was lent
abbrev pub created_kept : ℕ → ℕ → Serial → Bytes → Bytes → Kept
created_kept session keep start snapshots deltas = record {
  state = (made_created (create_of session keep start snapshots deltas)).state;
  snapshots = snapshots;
  deltas = deltas;
}

-- the calls, one after the other
abbrev pub kept_run : Kept → List Call → Kept
kept_run = foldl kept_after

-- a reply of a history in the interface's numbers, in the world that its call has left
abbrev pub flat_reply : World → Reply → Handed
flat_reply w (updated a) = answer (flat_update a w.history.newest)
flat_reply w (queried q out) = told (told_queried q) out
flat_reply w (fully f) = whole (told_full f)
flat_reply w (noticed n) = notice n
flat_reply w (is_ready b) = mark b

-- a run of exported calls beside the run of the same calls on a history
pub record Hosted (session keep : ℕ) (start : Serial) (k : Kept) (r : Reached) : Type 0 where
  -- all that is promised of the history's run
  pub promise : Promise session keep start r
  -- what is kept is that history, with its stores
  pub history : history_of k.state ≡ r.world.history
  pub snapshots : k.snapshots ≡ r.world.snapshots
  pub deltas : k.deltas ≡ r.world.deltas
  -- and each call hands back what it answers there
  pub handed : (c : Call) → handed_of k c ≡ flat_reply (step_of r.world c) (reply_of r.world c)

-- after every taplevung_create that answers kind 1, whatever the calls
abbrev pub EveryHosted : Type 0
EveryHosted = (session keep : ℕ) (start : Serial) (snapshots deltas : Bytes) → start.0 < 2 ^ 32 → (made_created (create_of session keep start snapshots deltas)).answer.kind ≡ 1 →
    (calls : List Call) → All OfBytes calls →
    Hosted session keep start (kept_run (created_kept session keep start snapshots deltas) calls) (run_of (start_of session keep start snapshots deltas) calls)
