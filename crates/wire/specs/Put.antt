-- How far the writing of an answer has come: what each part of it may assume, and what it leaves.
use Rattle.std.specs.Prelude.{ℕ, ◌+◌, ◌≤◌, ◌≡◌, cond, leb, length, None, Option, Some, Ok}
use Rattle.std.proofs.lemmas.List.Edits.{sets}
use Rattle.order.specs.Map.{All}
use Rattle.change.specs.Difference as change
use Rattle.body.specs.declared.tag.Form.TheVariants.{Snapshot, Delta}
use Rattle.field.specs.Verdict.{verdict}
use Rattle.payload.specs.Content.{Bytes}
use Rattle.payload.specs.Limit.{limit}
use Rattle.payload.specs.Valid.{IsMap}
use Rattle.payload.specs.Written.{written_if_room}
use Rattle.message.specs.declared.version.Version.{Version}
use Rattle.message.specs.Version.{end_length}
use Rattle.message.specs.Message.{cache_response, end_of_data, pdu}
use Rattle.delta.specs.declared.refusal.Refusal.TheVariants as refusal
use Rattle.past.specs.declared.state.History.{History}
use Rattle.past.specs.Store.{held_snapshot}
use Rattle.cursors.specs.declared.runs.Walk.{Walk}
use Rattle.cursors.specs.Cursor.{runs}
use Rattle.cursors.specs.Walk.{Starts}
use Rattle.wire.specs.declared.tally.Tally.{Tally}
use Rattle.wire.specs.declared.frame.Frame.{Frame}
use Rattle.wire.specs.declared.sent.Sent.{Sent}
use Rattle.wire.specs.Answer.{answer_bytes, tally_of, refused_with}
use Rattle.wire.specs.Tally.{saying, plus_all, start, Countable}
use Rattle.wire.specs.declared.sent.Reply.TheVariants as reply

-- the Cache Response is written if there is room for it
pub record OpenIs (v : Version) (f : Frame) (o o' : Bytes) : Type 0 where
  pub same : length o' ≡ length o
  pub laid : 8 ≤ length o → o' ≡ sets o 0 (pdu v (cache_response f.session.0))

-- the messages of D are written behind it, if there is room for all of them
pub record LaidIs (v : Version) (D : change.Delta Bytes Bytes) (o o' : Bytes) (r : Tally) : Type 0 where
  pub tally : r ≡ plus_all v start D
  pub room : Countable r
  pub same : length o' ≡ length o
  pub laid : 8 + length (saying v D) ≤ length o → o' ≡ sets o 8 (saying v D)

-- the End of Data is written behind what was counted, if there is room for it
pub record CloseIs (v : Version) (f : Frame) (t : Tally) (o o' : Bytes) (r : Tally) : Type 0 where
  pub tally : r ≡ record { len = t.len + end_length v; announced = t.announced; withdrawn = t.withdrawn; keys = t.keys; aspas = t.aspas }
  pub same : length o' ≡ length o
  pub laid : t.len + end_length v ≤ length o → o' ≡ sets o t.len (pdu v (end_of_data f.session.0 f.serial.0 f.times))

-- what is counted of a whole answer
pub record TallyIs (v : Version) (f : Frame) (D : change.Delta Bytes Bytes) (r : Tally) : Type 0 where
  pub is : r ≡ tally_of v (answer_bytes v f D) D

-- the whole answer is written if there is room for all of it
pub record AnswerIs (v : Version) (f : Frame) (D : change.Delta Bytes Bytes) (o o' : Bytes) (r : Tally) : Type 0 where
  pub tally : TallyIs v f D r
  pub same : length o' ≡ length o
  pub laid : length (answer_bytes v f D) ≤ length o → o' ≡ sets o 0 (answer_bytes v f D)

-- the whole of it, or nothing
abbrev pub writing_of : Version → Frame → change.Delta Bytes Bytes → ℕ → Option Tally
writing_of v f D room = cond (leb (length (answer_bytes v f D)) room) (Some (tally_of v (answer_bytes v f D) D)) None

abbrev pub answer_out : Version → Frame → change.Delta Bytes Bytes → Bytes → Bytes
answer_out v f D out = written_if_room (answer_bytes v f D) out

-- the answer of what was written, or not
abbrev pub sent_of : Frame → Option Tally → Sent
sent_of f None = refused_with refusal.NoRoom
sent_of f (Some t) = record { session = f.session; serial = f.serial; reply = Ok (reply.Data t) }

-- a walk at its start, over good deltas
pub record Merges (w : Walk) : Type 0 where
  pub starts : Starts w
  pub maps : All (IsMap Delta) (runs w.store.now w.at w.ends w.from w.n)

-- a good snapshot within the limit
pub record Holds (s : Bytes) : Type 0 where
  pub fine : verdict Snapshot s ≡ Ok tt
  pub small : length s ≤ limit Snapshot

-- a history's snapshot, good and within the limit
pub record Held (h : History) (snapshots : Bytes) : Type 0 where
  pub within : h.snapshot ≤ length snapshots
  pub holds : Holds (held_snapshot h snapshots)
