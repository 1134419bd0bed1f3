-- Lengths of parts.
use Prim.Native.Nat.{ℕ, ◌+◌, ◌≤◌, ◌<◌}
use mathlib.Core.List.{List}
use native.Mathlib.Omega.{arith}
use lib.ListN.{length}

-- arguments are taken up to their count
pub record Counting (count i : ℕ) : Type 0 where
  pub low : i ≤ count

pub count_start : (count : ℕ) → 2 ≤ count → Counting count 1
count_start count h = record { low = omega arith }

pub count_again : (count i : ℕ) → i < count → Counting count (i + 1)
count_again count i h = record { low = omega arith }

-- so much of a buffer is filled
pub record Filled (s : List ℕ) (n : ℕ) : Type 0 where
  pub low : n ≤ length s

pub filled_none : (s : List ℕ) → Filled s 0
filled_none s = record { low = omega arith }

pub ruleset filling = (filled_none)
