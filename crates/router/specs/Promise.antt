-- What a router gets that reads the answers of a history, over every run of calls: demand 3 carried to the wire.
use Rattle.std.specs.Prelude.{ℕ, ◌^◌, ◌<◌, ◌≡◌, List, [], map, length, take, Ok}
use Rattle.std.proofs.Math.Option.{some}
use Rattle.order.specs.Comparison.{bytes}
use Rattle.order.specs.Map.{All}
use Rattle.change.specs.Difference.{Delta, diff}
use Rattle.serial.specs.declared.Serial.{Serial}
use Rattle.serial.specs.declared.Session.{Session}
use Rattle.serial.specs.declared.timing.Timing.{Timing}
use Rattle.serial.specs.Serial.{session_of}
use Rattle.serial.specs.Timing.{timing_of}
use Rattle.payload.specs.Content.{Bytes}
use Rattle.payload.specs.Payload as payload
use Rattle.message.specs.declared.version.Version.{Version}
use Rattle.message.specs.Version.{times_told}
use Rattle.message.specs.Say.{spoken}
use Rattle.message.specs.Hear.{Told, ended, hear}
use Rattle.message.specs.Take as router
use Rattle.message.specs.Take.{all, as_item}
use Rattle.past.specs.Create.{create_of}
use Rattle.past.specs.Run.{World, Call, Reached, start_of, run_of, carried}
use Rattle.past.specs.Promise.{OfBytes, serial_in, current}
use Rattle.wire.specs.declared.tally.Tally.{Tally}
use Rattle.wire.specs.Answer.{Plan, sent_at, out_at, query_plan, full_plan}
use Rattle.wire.specs.declared.sent.Reply.TheVariants as reply

-- what is read: these items as far as the version speaks of their kinds, in order, each once; then the session, the serial and what is told of the times
pub record HeardAs (v : Version) (session : ℕ) (serial : Serial) (times : Timing) (D : Delta Bytes Bytes) (messages : Bytes) : Type 0 where
  pub told : List Told
  pub heard : hear v messages ≡ record { told = told; stop = ended (session_of session).0 serial.0 (times_told v (timing_of times)) }
  pub items : map as_item told ≡ spoken v D

-- and that, taken one after another on what the version speaks of one snapshot, leaves what it speaks of another
pub record LeadsOn (v : Version) (session : ℕ) (serial : Serial) (times : Timing) (base now messages : Bytes) : Type 0 where
  pub reads : HeardAs v session serial times (diff bytes bytes (payload.items base) (payload.items now)) messages
  pub taken : router.take (spoken v (payload.items base)) reads.told ≡ all (spoken v (payload.items now))

-- from the snapshot that most recently carried the serial asked for
pub record Home (v : Version) (session : ℕ) (start : Serial) (given : List Bytes) (now : Bytes) (asked : Serial) (times : Timing) (messages : Bytes) : Type 0 where
  pub base : Bytes
  pub most_recent : carried start asked given ≡ some base
  pub leads : LeadsOn v session (serial_in start given) times base now messages

-- the calls in a world, and what one has written into the output lent to it
abbrev pub query_in : Version → World → Session → Serial → Timing → Plan
query_in v w s asked times = query_plan v w.history s asked times w.snapshots w.deltas

abbrev pub full_in : Version → World → Timing → Plan
full_in v w times = full_plan v w.history times w.snapshots w.deltas

abbrev pub written : Plan → Bytes → Tally → Bytes
written p out t = take t.len (out_at p out)

-- once a first snapshot is accepted
pub record Wire (v : Version) (session : ℕ) (start : Serial) (r : Reached) : Type 0 where
  -- the messages of a served query lead a router from the snapshot that most recently carried its serial to the current one
  pub query : (s : Session) (asked : Serial) (times : Timing) (out : Bytes) (t : Tally) → asked.0 < 2 ^ 32 → ¬ (r.given ≡ []) →
      (sent_at (query_in v r.world s asked times) (length out)).reply ≡ Ok (reply.Data t) →
      Home v session start r.given (current r.world) asked times (written (query_in v r.world s asked times) out t)
  -- those of a full answer lead a router that holds nothing to the current one
  pub full : (times : Timing) (out : Bytes) (t : Tally) → ¬ (r.given ≡ []) → (sent_at (full_in v r.world times) (length out)).reply ≡ Ok (reply.Data t) →
      LeadsOn v session (serial_in start r.given) times [] (current r.world) (written (full_in v r.world times) out t)

-- of every run of calls from a creation that is done, in any version
abbrev pub EveryWire : Type 0
EveryWire = (v : Version) (session keep : ℕ) (start : Serial) (snapshots deltas : Bytes) → start.0 < 2 ^ 32 → (create_of session keep start snapshots deltas).answer ≡ Ok tt →
    (calls : List Call) → All OfBytes calls → Wire v session start (run_of (start_of session keep start snapshots deltas) calls)
