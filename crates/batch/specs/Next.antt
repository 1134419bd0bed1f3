-- The messages in message order, and the next of them.
use Rattle.std.specs.Prelude.{◌≡◌, ℕ, ◌≤◌, Bool, true, false, cond, List, [], ◌∷◌, length, take, ◌==◌}
use Rattle.payload.specs.Content.{Bytes}
use Rattle.heard.specs.Place.{Messages, precedes}
use Rattle.sorting.specs.Sorted.{sorted}
use Rattle.batch.specs.declared.next.Batch.{Batch}

-- behind the message at `low`; 0 stands before all
unfoldable pub is_above : Bytes → ℕ → ℕ → Bool
is_above s low x = cond (low == 0) true (precedes s low x)

unfoldable pub above : Bytes → ℕ → List ℕ → List ℕ
above s low [] = []
above s low (x ∷ xs) = cond (is_above s low x) (x ∷ above s low xs) (above s low xs)

-- what is left behind `low`, in message order
abbrev pub left : Bytes → ℕ → List ℕ → List ℕ
left s low xs = above s low (sorted s xs)

-- the buffer holds the next messages of s up to `stop` behind `low`, and says whether these are all; at least one, where one is left
pub record NextIs (s : Bytes) (stop low : ℕ) (buf : List ℕ) (r : Batch) : Type 0 where
  pub room : r.n ≤ 6_000
  pub is : (xs : List ℕ) → Messages s 8 xs stop → take r.n buf ≡ take r.n (left s low xs)
  pub within : (xs : List ℕ) → Messages s 8 xs stop → r.n ≤ length (left s low xs)
  pub all : (xs : List ℕ) → Messages s 8 xs stop → r.over ≡ true → r.n ≡ length (left s low xs)
  pub some : r.over ≡ false → 1 ≤ r.n
