-- What two runs still have.
use Rattle.std.specs.Prelude.{ℕ, drop}
use Rattle.order.specs.Comparison.{bytes}
use Rattle.change.specs.Difference.{Delta}
use Rattle.change.specs.Merge.{merge}
use Rattle.payload.specs.Content.{Bytes}
use Rattle.item.specs.declared.reading.Reading.{Reading}
use Rattle.item.specs.Reading.{read_as}

-- what is left to be merged of a from i on and of b from j on
abbrev pub left_of : Reading → Bytes → ℕ → Reading → Bytes → ℕ → Delta Bytes Bytes
left_of ra a i rb b j = merge bytes bytes (read_as ra (drop i a)) (read_as rb (drop j b))
