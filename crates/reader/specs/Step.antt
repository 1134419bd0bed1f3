-- A reader, made and stepped: what it finds where it stands, and where it stands then.
use Rattle.std.specs.Prelude.{ℕ, List}
use Rattle.std.specs.Borrow.{Bor}
use Rattle.field.specs.declared.head.Field.{Field}
use Rattle.field.specs.declared.head.Field.TheVariants.{End, Cut, Whole}
use Rattle.field.specs.Head.{field_at}
use Rattle.reader.specs.declared.DeltaReader.{DeltaReader}

-- a reader at the start of a delta
abbrev pub start : Bor (List ℕ) → DeltaReader
start d = record { delta = d; at = 0 }

-- the place behind a field that was found at `at`; there is none behind the end and behind a field that is cut short
abbrev pub behind : Field → ℕ → ℕ
behind End at = at
behind Cut at = at
behind (Whole tag from to) at = to

-- the field where the reader stands
abbrev pub found : DeltaReader → Field
found r = field_at r.delta.now r.at

-- the reader behind it, over the same delta
abbrev pub stepped : DeltaReader → DeltaReader
stepped r = record { delta = r.delta; at = behind (found r) r.at }
