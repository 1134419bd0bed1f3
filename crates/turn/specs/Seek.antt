-- The run of a snapshot's items below a delta's next item.
use Rattle.std.specs.Prelude.{ℕ, ◌+◌, ◌≤◌, ◌<◌, ◌≡◌, ◌∷◌, ◌++◌, length, drop}
use Rattle.order.specs.Map.{Item, All}
use Rattle.change.specs.Change.{Change}
use Rattle.change.specs.Difference as change
use Rattle.number.specs.Bytes.{AllBytes}
use Rattle.payload.specs.Content.{Bytes}
use Rattle.payload.specs.Payload.{items, changes}
use Rattle.item.specs.declared.reading.Reading.TheVariants.{Announced}
use Rattle.item.specs.Front.{front_key}
use Rattle.item.specs.Reading.{Ready}

-- the delta's item at j, if there is one, has a key of bytes, and no lower front than the bound
pub record Bounds (d : Bytes) (j bound : ℕ) : Type 0 where
  pub above : (x : Item Bytes (Change Bytes)) (rest : change.Delta Bytes Bytes) → changes (drop j d) ≡ x ∷ rest → (bound ≤ front_key x.key) × AllBytes x.key

-- from `from` up to `at` stand so many items, with fronts below the bound
pub record Seeks (s : Bytes) (from bound at count : ℕ) : Type 0 where
  pub passed : change.Snapshot Bytes Bytes
  pub split : items (drop from s) ≡ passed ++ items (drop at s)
  pub low : All (λ (x : Item Bytes Bytes). front_key x.key < bound) passed
  pub number : length passed ≡ count
  pub on : from ≤ at
  pub few_on : count + from ≤ at
  pub ready : Ready Announced s at
