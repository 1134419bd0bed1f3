-- What writing a record's field asks.
use Rattle.std.specs.Prelude.{ℕ, ◌+◌, ◌≤◌, ◌<◌, ◌≡◌, ◌++◌, length}
use Rattle.number.specs.Number.{two_bytes, word_bytes}
use Rattle.field.specs.declared.words.Words.{Words}
use Rattle.payload.specs.Content.{Bytes}
use Rattle.heard.specs.Place.{type_at}

-- a message of a prefix's type and its n bytes stand at `at`
pub record Prefix (s : Bytes) (kind n at : ℕ) : Type 0 where
  pub type : type_at s at ≡ kind
  pub within : at + n ≤ length s

-- the 26 bytes of the words of a field
abbrev pub words_bytes : Words → Bytes
words_bytes w = word_bytes w.first ++ (word_bytes w.second ++ (word_bytes w.third ++ two_bytes w.last))

-- there is room for them in o at i
pub record Holds (o : Bytes) (i : ℕ) (w : Words) : Type 0 where
  pub room : i + 26 ≤ length o
  pub last : w.last < 65_536
