-- The listing of a delta: a head line, then a line for each field.
use Rattle.std.specs.Prelude.{ℕ, ◌/◌, ◌%◌, List, [], ◌∷◌, ◌++◌, cond}
use Prim.Native.Char.{code}
use Rattle.serial.specs.declared.Serial.{Serial}
use Rattle.field.specs.Cells.{Cell, cells}
use Rattle.payload.specs.Content.{Bytes}
use Rattle.payload.specs.Count.{is_withdrawn}
use Rattle.item.specs.declared.sink.Counts.{Counts}
use Rattle.delta.specs.Answer.{counts_of}
use Rattle.listing.specs.Text.{ascii, hex_digit, decimal}

-- A marks tags ending in 1 or 3, W those ending in 2
abbrev pub mark : ℕ → ℕ
mark tag = cond (is_withdrawn tag) (code "W") (code "A")

-- a space, and the byte in hex
abbrev pub hex : ℕ → Bytes
hex x = code " " ∷ hex_digit (x / 16) ∷ hex_digit (x % 16) ∷ []

unfoldable pub hexes : Bytes → Bytes
hexes [] = []
hexes (x ∷ s) = hex x ++ hexes s

-- the line of a field: its mark, the tag and the whole body
unfoldable pub line_of : Cell → Bytes
line_of c = (mark c.tag ∷ []) ++ hex c.tag ++ hexes c.body ++ ascii "\n"

unfoldable pub lines_of : List Cell → Bytes
lines_of [] = []
lines_of (c ∷ cs) = line_of c ++ lines_of cs

-- a word and a number
unfoldable pub named : Bytes → ℕ → Bytes
named word n = word ++ decimal n

-- a line of three such
unfoldable pub three_of : Bytes → ℕ → Bytes → ℕ → Bytes → ℕ → Bytes
three_of a x b y c z = named a x ++ named b y ++ named c z ++ ascii "\n"

-- the head line
abbrev pub head_of : Serial → Counts → Bytes
head_of serial c = three_of (ascii "serial ") serial.0 (ascii " announced ") c.announced (ascii " withdrawn ") c.withdrawn

-- the whole of it
unfoldable pub listing_of : Serial → Bytes → Bytes
listing_of serial d = head_of serial (counts_of d) ++ lines_of (cells d)
