-- The difference of two snapshots: what leads from the old one to the new one.
use Rattle.std.specs.Prelude.{List}
use Rattle.std.proofs.Math.Option.{Option, none, some}
use Rattle.std.specs.declared.cmp.Ordering.{Ordering}
use Rattle.order.specs.Map.{Item}
use Rattle.order.specs.Walk.{walk}
use Rattle.change.specs.Change.{Change, announce, withdraw, replace}

-- a snapshot: keys and their values; a delta: keys and their changes
abbrev pub Snapshot : Type 0 → Type 0 → Type 0
Snapshot K W = List (Item K W)

abbrev pub Delta : Type 0 → Type 0 → Type 0
Delta K W = List (Item K (Change W))

-- at one key, by what old and new have there: only in old is withdrawn, only in new announced,
-- in both with different values updated with the old one kept; nothing else
abbrev pub diff_at : {W : Type 0} → (W → W → Ordering) → Option W → Option W → Option (Change W)
diff_at cmp none none = none
diff_at cmp none (some n) = some (announce n)
diff_at cmp (some p) none = some (withdraw p)
diff_at cmp (some p) (some n) = replace cmp p n

-- at every key: old, new
abbrev pub diff : {K W : Type 0} → (K → K → Ordering) → (W → W → Ordering) → Snapshot K W → Snapshot K W → Delta K W
diff cmp val = walk cmp (diff_at val)
