-- What a history writes, the judge accepts: one who holds what the router held gets the current snapshot, over every run of calls.
use Rattle.std.specs.Prelude.{ℕ, ◌^◌, ◌<◌, ◌≤◌, ◌≡◌, List, [], length, Ok}
use Rattle.std.proofs.Math.Option.{some}
use Rattle.order.specs.Map.{All}
use Rattle.serial.specs.declared.Serial.{Serial}
use Rattle.serial.specs.declared.Session.{Session}
use Rattle.serial.specs.declared.timing.Timing.{Timing}
use Rattle.serial.specs.Serial.{session_of}
use Rattle.serial.specs.Timing.{timing_of}
use Rattle.body.specs.declared.tag.Form.TheVariants.{Snapshot}
use Rattle.field.specs.Verdict.{verdict}
use Rattle.payload.specs.Content.{Bytes}
use Rattle.payload.specs.Payload.{items}
use Rattle.payload.specs.Written.{written_over}
use Rattle.message.specs.declared.version.Version.{Version}
use Rattle.message.specs.Version.{times_told}
use Rattle.message.specs.Say.{spoken}
use Rattle.message.specs.Hear.{hear}
use Rattle.judge.specs.Answer.{counts_of, judge_of, judge_out}
use Rattle.judge.specs.Promise.{unspoken}
use Rattle.past.specs.Create.{create_of}
use Rattle.past.specs.Run.{Call, Reached, start_of, run_of, carried}
use Rattle.past.specs.Promise.{OfBytes, serial_in, current}
use Rattle.wire.specs.declared.tally.Tally.{Tally}
use Rattle.wire.specs.Answer.{sent_at}
use Rattle.router.specs.Promise.{query_in, full_in, written}
use Rattle.wire.specs.declared.sent.Reply.TheVariants as reply

-- messages that are accepted by one who holds the snapshot base, and lead on to the snapshot now
pub record Accepts (v : Version) (session : ℕ) (serial : Serial) (times : Timing) (base now messages : Bytes) : Type 0 where
  pub result : Bytes
  -- with room for the result: the 16-bit session, the serial and the times of the End of Data (what the version tells of them), the result's length and the counts of messages
  pub accepts : (room : ℕ) → length result ≤ room →
      judge_of v base messages room ≡ Ok (record { session = session_of session; serial = serial; times = times_told v (timing_of times); counts = counts_of (hear v messages).told result })
  -- and the result is written
  pub writes : (out : Bytes) → length result ≤ length out → judge_out v base messages out ≡ written_over result out
  -- it is good: as now in the kinds that the version speaks of, as base in the others
  pub fine : verdict Snapshot result ≡ Ok tt
  pub as_now : spoken v (items result) ≡ spoken v (items now)
  pub as_base : unspoken v (items result) ≡ unspoken v (items base)
  -- so it is now, byte for byte, where base and now agree in these
  pub whole : unspoken v (items base) ≡ unspoken v (items now) → result ≡ now

-- once a first snapshot is accepted
pub record Judged (v : Version) (session : ℕ) (start : Serial) (r : Reached) : Type 0 where
  -- the messages of a served query, by one who holds the snapshot that most recently carried the serial asked for
  pub query : (s : Session) (asked : Serial) (times : Timing) (out : Bytes) (t : Tally) → asked.0 < 2 ^ 32 → ¬ (r.given ≡ []) →
      (sent_at (query_in v r.world s asked times) (length out)).reply ≡ Ok (reply.Data t) → (base : Bytes) → carried start asked r.given ≡ some base →
      Accepts v session (serial_in start r.given) times base (current r.world) (written (query_in v r.world s asked times) out t)
  -- those of a full answer, by one who holds nothing
  pub full : (times : Timing) (out : Bytes) (t : Tally) → ¬ (r.given ≡ []) → (sent_at (full_in v r.world times) (length out)).reply ≡ Ok (reply.Data t) →
      Accepts v session (serial_in start r.given) times [] (current r.world) (written (full_in v r.world times) out t)

-- of every run of calls from a creation that is done, in any version
abbrev pub EveryJudged : Type 0
EveryJudged = (v : Version) (session keep : ℕ) (start : Serial) (snapshots deltas : Bytes) → start.0 < 2 ^ 32 → (create_of session keep start snapshots deltas).answer ≡ Ok tt →
    (calls : List Call) → All OfBytes calls → Judged v session start (run_of (start_of session keep start snapshots deltas) calls)
