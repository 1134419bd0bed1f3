-- What is written of a list of changes, and its counts.
use Rattle.std.specs.Prelude.{ℕ, ◌+◌, ◌^◌, ◌<◌, [], ◌++◌, map, length, get_or, drop}
use Rattle.order.specs.Map.{Item}
use Rattle.change.specs.Change.{Change}
use Rattle.change.specs.Difference as change
use Rattle.body.specs.declared.tag.Form.{Form}
use Rattle.body.specs.declared.tag.Form.TheVariants.{Snapshot, Delta}
use Rattle.field.specs.Cells as run
use Rattle.payload.specs.Content.{Bytes, tag_for, values_for}
use Rattle.payload.specs.Count.{announces, withdraws, sum_of}
use Rattle.item.specs.declared.place.Act.{Act}
use Rattle.item.specs.declared.place.Act.TheVariants as act
use Rattle.item.specs.declared.sink.Counts.{Counts}
use Rattle.item.specs.Place.{change_in}

-- the tag of a change of a kind; in a snapshot the kind alone
abbrev pub tag_as : Form → ℕ → Change Bytes → ℕ
tag_as Snapshot kind c = kind
tag_as Delta kind c = tag_for Delta kind c

abbrev pub cell_as : Form → Item Bytes (Change Bytes) → run.Cell
cell_as form x = record { tag = tag_as form (get_or x.key 0 0) x.val; body = drop 1 x.key ++ values_for x.val }

-- one field
abbrev pub field_as : Form → Item Bytes (Change Bytes) → Bytes
field_as form x = run.field (cell_as form x).tag (cell_as form x).body

-- all of them, one behind the other
abbrev pub writes : Form → change.Delta Bytes Bytes → Bytes
writes form D = run.cell_bytes (map (cell_as form) D)

-- the counts with one item more, and with many
abbrev pub plus_item : Form → Counts → Item Bytes (Change Bytes) → Counts
plus_item form c x = record {
  len = c.len + length (field_as form x);
  announced = c.announced + announces x.val;
  withdrawn = c.withdrawn + withdraws x.val;
}

abbrev pub plus_all : Form → Counts → change.Delta Bytes Bytes → Counts
plus_all form c D = record {
  len = c.len + length (writes form D);
  announced = c.announced + sum_of announces D;
  withdrawn = c.withdrawn + sum_of withdraws D;
}

-- the same by the places of the change, in whatever bytes they lie
abbrev pub tag_place : Form → ℕ → Act → ℕ
tag_place form kind a = tag_as form kind (change_in [] [] a)

abbrev pub plus_place : Counts → Act → ℕ → Counts
plus_place c (act.Withdraw p) size = record { len = c.len + size; announced = c.announced; withdrawn = c.withdrawn + 1 }
plus_place c (act.Announce n) size = record { len = c.len + size; announced = c.announced + 1; withdrawn = c.withdrawn }
plus_place c (act.Update p n) size = record { len = c.len + size; announced = c.announced + 1; withdrawn = c.withdrawn }

abbrev pub zero : Counts
zero = record { len = 0; announced = 0; withdrawn = 0 }

-- one more item can be counted
pub record Countable (c : Counts) : Type 0 where
  pub len : c.len < 2 ^ 62
  pub announced : c.announced < 2 ^ 62
  pub withdrawn : c.withdrawn < 2 ^ 62
