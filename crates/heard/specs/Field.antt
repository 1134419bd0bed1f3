-- The snapshot's field of a record.
use Rattle.std.specs.Prelude.{get_or, drop}
use Rattle.field.specs.Cells.{field}
use Rattle.payload.specs.Content.{Bytes}

-- the kind is its tag, and what stands behind that in the key its body
abbrev pub record_field : Bytes → Bytes
record_field k = field (get_or k 0 0) (drop 1 k)
