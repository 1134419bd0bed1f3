-- A served query's answer among all deltas that lead the same way, after every run of calls.
use Rattle.std.specs.Prelude.{◌^◌, ◌<◌, ◌≡◌, List, [], length, Ok}
use Rattle.std.proofs.Math.Option.{some}
use Rattle.serial.specs.declared.Serial.{Serial}
use Rattle.serial.specs.declared.Session.{Session}
use Rattle.number.specs.Bytes.{AllBytes}
use Rattle.payload.specs.Content.{Bytes}
use Rattle.item.specs.declared.sink.Counts.{Counts}
use Rattle.delta.specs.Shortest.{LeadsTo, NoLonger, Balance}
use Rattle.past.specs.Run.{Reached, carried}
use Rattle.past.specs.Promise.{queried_in, written_in, current}

pub record ShortestHome (start : Serial) (given : List Bytes) (now : Bytes) (asked : Serial) (answer : Bytes) : Type 0 where
  -- the snapshot that most recently carried the serial asked for
  pub base : Bytes
  pub most_recent : carried start asked given ≡ some base
  -- the answer is a good delta that can be applied to it and yields the current snapshot, and no such delta has fewer items or bytes
  pub leads : LeadsTo base now answer
  pub shortest : (D : Bytes) → AllBytes D → LeadsTo base now D → NoLonger answer D
  -- what the router will hold with what the answer withdraws is as much as what it held with what the answer announces
  pub balance : Balance base answer now

-- once a first snapshot is accepted, each served query leaves such an answer in its output
pub record Shortest (start : Serial) (r : Reached) : Type 0 where
  pub home : (s : Session) (asked : Serial) (out : Bytes) (c : Counts) → asked.0 < 2 ^ 32 → ¬ (r.given ≡ []) →
      (queried_in r.world s asked (length out)).answer ≡ Ok c →
      ShortestHome start r.given (current r.world) asked (written_in r.world s asked out c)
