-- The run of a delta's items below a bound.
use Rattle.std.specs.Prelude.{ℕ, ◌+◌, ◌*◌, ◌/◌, ◌≤◌, ◌<◌, ◌≡◌, ◌++◌, cond, length, get_or, drop}
use Rattle.order.specs.Map.{Item, All}
use Rattle.change.specs.Change.{Change}
use Rattle.change.specs.Difference as change
use Rattle.number.specs.Number.{word_at}
use Rattle.number.specs.Bytes.{part}
use Rattle.body.specs.declared.tag.Form.TheVariants.{Delta}
use Rattle.payload.specs.Content.{Bytes}
use Rattle.payload.specs.Payload.{changes}
use Rattle.payload.specs.Count.{is_withdrawn, announces, withdraws, sum_of}
use Rattle.item.specs.declared.reading.Reading.TheVariants.{Changes}
use Rattle.item.specs.Front.{front_key, front_in}
use Rattle.item.specs.Reading.{Ready}
use Rattle.item.specs.Write.{writes}

-- the front of the item at a place of a delta
unfoldable pub front_at : Bytes → ℕ → ℕ
front_at s at = front_in (get_or s at 0 / 16) (word_at s (at + 3))

-- how many items a tag withdraws: one, or none
unfoldable pub gone_of : ℕ → ℕ
gone_of tag = cond (is_withdrawn tag) 1 0

-- from `from` up to `to` stand items with fronts below the bound, of at most 40,000 bytes each; written they are the bytes
-- that stand there
pub record Stretches (s : Bytes) (from bound to announced withdrawn : ℕ) : Type 0 where
  pub passed : change.Delta Bytes Bytes
  pub split : changes (drop from s) ≡ passed ++ changes (drop to s)
  pub low : All (λ (x : Item Bytes (Change Bytes)). front_key x.key < bound) passed
  pub lies : writes Delta passed ≡ part s from to
  pub announced_is : sum_of announces passed ≡ announced
  pub withdrawn_is : sum_of withdraws passed ≡ withdrawn
  pub number : announced + withdrawn ≡ length passed
  pub short : to ≤ from + 40_000 * length passed
  pub on : from ≤ to
  pub ready : Ready Changes s to
