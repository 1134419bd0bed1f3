-- What the versions of the protocol differ in.
use Rattle.std.specs.Prelude.{ℕ, List, [], ◌++◌, Bool, leb}
use Rattle.serial.specs.declared.timing.Timing.{Timing}
use Rattle.number.specs.Number.{four_at, four_bytes}
use Rattle.message.specs.declared.version.Version.{Version}
use Rattle.message.specs.declared.version.Version.TheVariants.{Rfc6810, Rfc8210}

-- the byte that each message starts with
abbrev pub version_number : Version → ℕ
version_number Rfc6810 = 0
version_number Rfc8210 = 1

-- the kinds of records that there is a message for: origins (1), router keys (2, not in RFC 6810); never ASPAs (3)
abbrev pub speaks : Version → ℕ → Bool
speaks Rfc6810 kind = leb kind 1
speaks Rfc8210 kind = leb kind 2

-- what is said of the times: in RFC 6810 nothing, which reads as zeros
abbrev pub times_told : Version → Timing → Timing
times_told Rfc6810 t = record { refresh = 0; retry = 0; expire = 0 }
times_told Rfc8210 t = t

-- the times at the end of an End of Data: refresh, retry, expire
abbrev pub times_bytes : Version → Timing → List ℕ
times_bytes Rfc6810 t = []
times_bytes Rfc8210 t = four_bytes t.refresh ++ (four_bytes t.retry ++ four_bytes t.expire)

-- and what they are where they stand
abbrev pub times_in : Version → List ℕ → Timing
times_in Rfc6810 s = record { refresh = 0; retry = 0; expire = 0 }
times_in Rfc8210 s = record { refresh = four_at s 0; retry = four_at s 4; expire = four_at s 8 }

-- the length of an End of Data
abbrev pub end_length : Version → ℕ
end_length Rfc6810 = 12
end_length Rfc8210 = 24
