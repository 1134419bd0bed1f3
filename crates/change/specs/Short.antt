-- How short a delta can be that leads from one snapshot to another.
use Rattle.std.specs.Prelude.{◌≤◌, ◌≡◌, length}
use Rattle.std.specs.declared.cmp.Ordering.{Ordering}
use Rattle.order.specs.Map.{Sorted}
use Rattle.change.specs.Difference.{Snapshot, Delta, diff}
use Rattle.change.specs.Application.{apply, Applies}
use Rattle.change.specs.Part.{Part}

module _ {K W : Type 0} (cmp : K → K → Ordering) (val : W → W → Ordering) where
  -- an ascending delta that can be applied to A and yields C
  pub record LeadsTo (A C : Snapshot K W) (D : Delta K W) : Type 0 where
    pub ascends : Sorted cmp D
    pub applies : Applies cmp val A D
    pub yields : apply cmp A D ≡ C

  -- the difference of A and C beside any delta that leads from A to C
  pub record Short (A C : Snapshot K W) (D : Delta K W) : Type 0 where
    -- every item of the difference is an item of the delta
    pub within : Part (diff cmp val A C) D
    -- so the delta has no fewer items
    pub items : length (diff cmp val A C) ≤ length D
    -- and if it has no more it is the difference
    pub only : length D ≤ length (diff cmp val A C) → D ≡ diff cmp val A C
