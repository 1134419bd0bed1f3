-- How many items a delta announces and withdraws.
use Rattle.std.specs.Prelude.{ℕ, List}
use Rattle.payload.specs.Count.{announced_in, withdrawn_in}
use Rattle.reader.specs.declared.count.Tally.{Tally}

-- the counts of a delta's fields
abbrev pub tally_of : List ℕ → Tally
tally_of s = record { announced = announced_in s; withdrawn = withdrawn_in s }
