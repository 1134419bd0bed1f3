-- The messages of an answer taken one after another: a set of records that grows and shrinks.
use Rattle.std.specs.Prelude.{List, [], ◌∷◌, cond}
use Rattle.order.specs.Comparison.{bytes}
use Rattle.order.specs.Map.{Item, lookup}
use Rattle.change.specs.Change.{Change}
use Rattle.change.specs.Difference.{Snapshot}
use Rattle.change.specs.Application.{apply, fits}
use Rattle.payload.specs.Content.{Bytes}
use Rattle.message.specs.Hear.{Told}

-- all of them, and what they leave; or the first that does not fit: a withdrawal of an absent record, an announcement of a present one
pub data Taken : Type 0 where
  all : (A : Snapshot Bytes Bytes) → Taken
  misfit : (t : Told) → Taken

-- a message as a delta's only item
abbrev pub as_item : Told → Item Bytes (Change Bytes)
as_item t = record { key = t.key; val = t.change }

unfoldable pub take : Snapshot Bytes Bytes → List Told → Taken
take A [] = all A
take A (t ∷ ts) =
    cond (fits bytes (lookup bytes t.key A) t.change)
    (take (apply bytes A (as_item t ∷ [])) ts)
    (misfit t)
