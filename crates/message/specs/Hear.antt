-- What is heard in the bytes of one answer: its payload messages, up to its end or to the first message that is faulty.
use Rattle.std.specs.Prelude.{ℕ, zero, suc, ◌+◌, List, [], ◌∷◌, cond, eqb, length}
use Rattle.change.specs.Change.{Change}
use Rattle.serial.specs.declared.timing.Timing.{Timing}
use Rattle.payload.specs.Content.{Bytes}
use Rattle.message.specs.declared.version.Version.{Version}
use Rattle.message.specs.Record.{Part, opening, payload, ending, misplaced, part_of}
use Rattle.message.specs.Read.{Front, unread, read, front}

-- a payload message: where it starts, its record, and what becomes of that
pub record Told : Type 0 where
  pub at : ℕ
  pub key : Bytes
  pub change : Change Bytes

-- a faulty message (13) and where it starts, or a good End of Data
pub data Stop : Type 0 where
  faulty : (at : ℕ) → Stop
  ended : (session serial : ℕ) (times : Timing) → Stop

pub record Heard : Type 0 where
  pub told : List Told
  pub stop : Stop

abbrev pub stopped : Stop → Heard
stopped stop = record { told = []; stop = stop }

abbrev pub more : Told → Heard → Heard
more t h = record { told = t ∷ h.told; stop = h.stop }

-- nothing may stand behind the End of Data, and it must name the session of the Cache Response
abbrev pub end_at : ℕ → ℕ → Timing → ℕ → Bytes → Stop
end_at session serial times on [] = ended session serial times
end_at session serial times on (x ∷ rest) = faulty on

-- the message that stands at `at`; `go` hears what is behind it, from its offset
abbrev pub hear_part : ℕ → ℕ → Part → ℕ → Bytes → (ℕ → Bytes → Heard) → Heard
hear_part session at (opening other) n rest go = stopped (faulty at)
hear_part session at (payload key change) n rest go = more (record { at = at; key = key; change = change }) (go (at + n) rest)
hear_part session at (ending other serial times) n rest go =
    stopped (cond (eqb other session) (end_at session serial times (at + n) rest) (faulty at))
hear_part session at misplaced n rest go = stopped (faulty at)

abbrev pub hear_front : ℕ → ℕ → Front → (ℕ → Bytes → Heard) → Heard
hear_front session at unread go = stopped (faulty at)
hear_front session at (read m n rest) go = hear_part session at (part_of m) n rest go

-- the messages behind the Cache Response, of which the next stands at `at`; there are fewer than `fuel`
unfoldable pub hear_f : (fuel : ℕ) → Version → ℕ → ℕ → Bytes → Heard
hear_f zero v session at s = stopped (faulty at)
hear_f (suc fuel) v session at s = hear_front session at (front v s) (hear_f fuel v session)

abbrev pub open_part : Part → (ℕ → Heard) → Heard
open_part (opening session) go = go session
open_part (payload key change) go = stopped (faulty 0)
open_part (ending session serial times) go = stopped (faulty 0)
open_part misplaced go = stopped (faulty 0)

abbrev pub open_front : Version → Front → Heard
open_front v unread = stopped (faulty 0)
open_front v (read m n rest) = open_part (part_of m) (λ session. hear_f (length rest + 1) v session n rest)

-- an answer starts with its Cache Response
unfoldable pub hear : Version → Bytes → Heard
hear v s = open_front v (front v s)
