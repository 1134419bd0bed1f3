-- What one run has below all others.
use Rattle.std.specs.Prelude.{ℕ, ◌+◌, ◌*◌, ◌≤◌, ◌<◌, ◌≡◌, List, ◌++◌, length, take}
use Rattle.number.specs.Bytes.{part}
use Rattle.body.specs.declared.tag.Form.TheVariants.{Delta}
use Rattle.payload.specs.Content.{Bytes}
use Rattle.payload.specs.Count.{announces, withdraws, sum_of}
use Rattle.item.specs.Write.{writes}
use Rattle.turn.specs.declared.stretch.Stretch.{Stretch}
use Rattle.turn.specs.Stretch.{Stretches}
use Rattle.cursors.specs.declared.lone.Lone.{Lone}
use Rattle.cursors.specs.Cursor.{D, left_of, items_left, Walks}
use Rattle.cursors.specs.Front.{Fronted}

-- the items of the run from p up to e below a bound; closed: a search does not look into it
pub data Sought (s : Bytes) (p e bound : ℕ) (r : Stretch) : Type 0 where
  sought : Stretches (take e s) p bound r.to r.announced r.withdrawn → Sought s p e bound r

-- run p takes part
pub record Leads (s : Bytes) (at ends : List ℕ) (from n : ℕ) (f : List ℕ) (p : ℕ) : Type 0 where
  pub walks : Walks s at ends from n
  pub fronted : Fronted s at ends from n f
  pub ahead : from ≤ p
  pub inside : p < n

-- what was left is these items and what is left now; they lie in the store as they are written
pub record Passes (s : Bytes) (at₀ at ends : List ℕ) (from n : ℕ) (passed : D) (r : Lone) : Type 0 where
  pub walks : Walks s at ends from n
  pub is : left_of s at₀ ends from n ≡ passed ++ left_of s at ends from n
  pub fewer : items_left s at₀ ends from n ≡ length passed + items_left s at ends from n
  pub lies : writes Delta passed ≡ part s r.from r.to
  pub ordered : r.from ≤ r.to
  pub within : r.to ≤ length s
  pub short : r.to ≤ r.from + 40_000 * length passed
  pub announced : sum_of announces passed ≡ r.announced
  pub withdrawn : sum_of withdraws passed ≡ r.withdrawn
  pub number : r.announced + r.withdrawn ≡ length passed

-- so for some items; closed: a search does not look into it
pub data LoneIs (s : Bytes) (at₀ at ends : List ℕ) (from n : ℕ) (r : Lone) : Type 0 where
  passes : (passed : D) → Passes s at₀ at ends from n passed r → LoneIs s at₀ at ends from n r
