-- Stepping a reader: what many calls of `next` answer.
use Rattle.std.specs.Prelude.{ℕ, zero, suc, List, [], ◌∷◌}
use Rattle.number.specs.Bytes.{part}
use Rattle.field.specs.declared.head.Field.{Field}
use Rattle.field.specs.declared.head.Field.TheVariants.{End, Cut, Whole}
use Rattle.field.specs.Cells.{Cell}
use Rattle.reader.specs.declared.DeltaReader.{DeltaReader}
use Rattle.reader.specs.Step.{found, stepped}

-- what n calls of `next` answer, one after the other
unfoldable pub answers : ℕ → DeltaReader → List Field
answers zero r = []
answers (suc n) r = found r ∷ answers n (stepped r)

-- the reader after n calls
unfoldable pub steps : ℕ → DeltaReader → DeltaReader
steps zero r = r
steps (suc n) r = steps n (stepped r)

-- the fields of s that are among the answers
unfoldable pub wholes : List ℕ → List Field → List Cell
wholes s [] = []
wholes s (End ∷ fs) = wholes s fs
wholes s (Cut ∷ fs) = wholes s fs
wholes s (Whole tag from to ∷ fs) = record { tag = tag; body = part s from to } ∷ wholes s fs
