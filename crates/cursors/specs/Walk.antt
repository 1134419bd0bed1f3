-- The walk over many runs as one value.
use Rattle.std.specs.Prelude.{ℕ, ◌≡◌, List, Option}
use Rattle.payload.specs.Content.{Bytes}
use Rattle.field.specs.declared.key.Key.{Key}
use Rattle.item.specs.declared.place.Act.{Act}
use Rattle.cursors.specs.declared.runs.Walk.{Walk}
use Rattle.cursors.specs.declared.lone.Lone.{Lone}
use Rattle.cursors.specs.Cursor.{D, Walks, NextIs, Gathered, Bounded, key_at, left_of, items_left}
use Rattle.cursors.specs.Front.{Fronted}
use Rattle.cursors.specs.Lone.{LoneIs}

-- the runs of this store, with their fronts
pub record LinedUp (s : Bytes) (at₀ ends₀ : List ℕ) (from₀ n₀ : ℕ) (w : Walk) : Type 0 where
  pub store : w.store.now ≡ s
  pub at : w.at ≡ at₀
  pub ends : w.ends ≡ ends₀
  pub from : w.from ≡ from₀
  pub n : w.n ≡ n₀
  pub fronted : Fronted s at₀ ends₀ from₀ n₀ w.fronts.of

-- the fronts are those of the runs
abbrev pub InLine : Walk → Type 0
InLine w = Fronted w.store.now w.at w.ends w.from w.n w.fronts.of

-- what is left of its runs, merged
abbrev pub remains : Walk → D
remains w = left_of w.store.now w.at w.ends w.from w.n

-- how many items its runs have
abbrev pub items_of : Walk → ℕ
items_of w = items_left w.store.now w.at w.ends w.from w.n

-- the fronts are right, and what is left of each run ascends
pub record Underway (w : Walk) : Type 0 where
  pub walks : Walks w.store.now w.at w.ends w.from w.n
  pub fronted : InLine w

-- so at the start: the runs have no more items than a delta store has bytes
pub record Starts (w : Walk) : Type 0 where
  pub bounded : Bounded w.store.now w.at w.ends w.from w.n
  pub fronted : InLine w

-- the walk is over the same runs: only cursors and fronts went on
pub record Kept (w₀ w : Walk) : Type 0 where
  pub store : w.store.now ≡ w₀.store.now
  pub ends : w.ends ≡ w₀.ends
  pub from : w.from ≡ w₀.from
  pub n : w.n ≡ w₀.n

-- what was left is the item that was given, and what is left now
abbrev pub Gives : Walk → Walk → Option (Key × Act) → Type 0
Gives w₀ w r = NextIs w₀.store.now w₀.at w.at w₀.ends w₀.from w₀.n r

-- what was left is what one run had below all others, and what is left now
abbrev pub Passed : Walk → Walk → Lone → Type 0
Passed w₀ w r = LoneIs w₀.store.now w₀.at w.at w₀.ends w₀.from w₀.n r

-- the changes of all runs at the first key of the run from q up to g were taken
abbrev pub Took : Walk → Walk → ℕ → ℕ → Option Act → Type 0
Took w₀ w q g r = Gathered w₀.store.now w₀.at w.at w₀.ends w₀.from w₀.n (key_at w₀.store.now q g) r
