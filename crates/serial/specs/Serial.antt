-- Serials and sessions.
use Rattle.std.specs.Prelude.{ℕ, ◌+◌, ◌-◌, ◌%◌, ◌^◌}
use Rattle.serial.specs.declared.Serial.{Serial}
use Rattle.serial.specs.declared.Session.{Session}

-- serial 0 and session 0: an answer that names no serial and no session has these
abbrev pub zero_serial : Serial
zero_serial = record { 0 = 0 }

abbrev pub zero_session : Session
zero_session = record { 0 = 0 }

-- the serial plus 1; the serial after 4,294,967,295 is 0
abbrev pub next_of : Serial → Serial
next_of s = record { 0 = (s.0 + 1) % 2 ^ 32 }

-- F - S modulo 4,294,967,296
abbrev pub distance_of : Serial → Serial → ℕ
distance_of newest asked = (newest.0 + (2 ^ 32 - asked.0)) % 2 ^ 32

-- a history's session modulo 65,536
abbrev pub session_of : ℕ → Session
session_of session = record { 0 = session % 65536 }
