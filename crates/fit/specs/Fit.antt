-- The first item of a delta that cannot be applied, by its offset.
use Rattle.std.specs.Prelude.{ℕ, ◌+◌, List, [], ◌∷◌, cond, length, None, Option, Some}
use Rattle.order.specs.Comparison.{bytes}
use Rattle.order.specs.Map.{lookup}
use Rattle.change.specs.Difference.{Snapshot}
use Rattle.change.specs.Application.{fits}
use Rattle.body.specs.declared.tag.Form.TheVariants.{Delta}
use Rattle.field.specs.Cells.{Cell, cells}
use Rattle.payload.specs.Content.{Bytes, entry_of}
use Rattle.payload.specs.Payload.{items}

-- of fields of which the first stands at `at`
unfoldable pub misfit : Snapshot Bytes Bytes → ℕ → List Cell → Option ℕ
misfit A at [] = None
misfit A at (c ∷ cs) =
    cond (fits bytes (lookup bytes (entry_of Delta c).key A) (entry_of Delta c).val)
    (misfit A (at + 3 + length c.body) cs)
    (Some at)

abbrev pub fit_of : Bytes → Bytes → Option ℕ
fit_of snapshot delta = misfit (items snapshot) 0 (cells delta)
