-- Snapshots and deltas as bytes, and the maps that they are.
use Rattle.std.specs.Prelude.{List, map}
use Rattle.order.specs.Map.{Item}
use Rattle.change.specs.Difference as change
use Rattle.body.specs.declared.tag.Form.{Form}
use Rattle.body.specs.declared.tag.Form.TheVariants.{Snapshot, Delta}
use Rattle.field.specs.Cells as run
use Rattle.payload.specs.Content.{Bytes, Content, entry_of, cell_for}

-- what the fields of a run say, in order
unfoldable pub entries : (form : Form) → Bytes → List (Item Bytes (Content form))
entries form s = map (entry_of form) (run.cells s)

-- the fields that say these items, one behind the other
unfoldable pub encode : (form : Form) → List (Item Bytes (Content form)) → Bytes
encode form xs = run.cell_bytes (map (cell_for form) xs)

-- the items of a snapshot, the changes of a delta
abbrev pub items : Bytes → change.Snapshot Bytes Bytes
items = entries Snapshot

abbrev pub changes : Bytes → change.Delta Bytes Bytes
changes = entries Delta
