-- The merge of two deltas, the earlier one first.
use mathlib.Core.List.{List, [], foldl}
use Rattle.std.proofs.Math.Option.{Option, none, some}
use Rattle.std.specs.declared.cmp.Ordering.{Ordering}
use Rattle.order.specs.Walk.{walk}
use Rattle.change.specs.Change.{Change, announce, withdraw, update, replace}
use Rattle.change.specs.Difference.{Delta}

-- a key in both deltas: earlier, later, outcome. The former value is the earlier one's, the new value the later one's.
-- (A withdrawn origin or router key that comes again has the one empty value before and after: nothing.)
abbrev pub table : {W : Type 0} → (W → W → Ordering) → Change W → Change W → Option (Change W)
table cmp (announce m) (announce n) = some (announce n)
table cmp (announce m) (withdraw q) = none
table cmp (withdraw p) (withdraw q) = some (withdraw p)
table cmp (announce m) (update q n) = some (announce n)
table cmp (update p m) (announce n) = some (update p n)
table cmp (update p m) (update q n) = replace cmp p n
table cmp (update p m) (withdraw q) = some (withdraw p)
table cmp (withdraw p) (announce n) = replace cmp p n
table cmp (withdraw p) (update q n) = replace cmp p n

-- at one key: a key in one delta only is kept
abbrev pub merge_at : {W : Type 0} → (W → W → Ordering) → Option (Change W) → Option (Change W) → Option (Change W)
merge_at cmp none none = none
merge_at cmp none (some d) = some d
merge_at cmp (some c) none = some c
merge_at cmp (some c) (some d) = table cmp c d

module _ {K W : Type 0} (cmp : K → K → Ordering) (val : W → W → Ordering) where
  -- at every key: earlier, later
  abbrev pub merge : Delta K W → Delta K W → Delta K W
  merge = walk cmp (merge_at val)

  -- any number of deltas, earliest first; of none, the empty delta
  abbrev pub merge_all : List (Delta K W) → Delta K W
  merge_all = foldl merge []
