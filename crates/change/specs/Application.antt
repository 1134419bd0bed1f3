-- A delta applied to a snapshot.
use Rattle.std.specs.Prelude.{◌≡◌, Bool, true, false}
use Rattle.std.proofs.Math.Option.{Option, none, some}
use Rattle.std.specs.declared.cmp.Ordering.{Ordering}
use Rattle.std.specs.declared.cmp.Ordering.TheVariants.{Less, Equal, Greater}
use Rattle.order.specs.Map.{lookup}
use Rattle.order.specs.Walk.{walk}
use Rattle.change.specs.Change.{Change, announce, withdraw, update}
use Rattle.change.specs.Difference.{Snapshot, Delta}

abbrev pub is_equal : Ordering → Bool
is_equal Less = false
is_equal Equal = true
is_equal Greater = false

-- held, change: what is held afterwards
abbrev pub apply_at : {W : Type 0} → Option W → Option (Change W) → Option W
apply_at o none = o
apply_at o (some (announce n)) = some n
apply_at o (some (withdraw p)) = none
apply_at o (some (update p n)) = some n

-- held, change: announce needs the key absent, the others need it present with the former value
abbrev pub fits : {W : Type 0} → (W → W → Ordering) → Option W → Change W → Bool
fits cmp none (announce n) = true
fits cmp none (withdraw p) = false
fits cmp none (update p n) = false
fits cmp (some v) (announce n) = false
fits cmp (some v) (withdraw p) = is_equal (cmp v p)
fits cmp (some v) (update p n) = is_equal (cmp v p)

-- at one key: no change always fits
abbrev pub fits_at : {W : Type 0} → (W → W → Ordering) → Option W → Option (Change W) → Bool
fits_at cmp o none = true
fits_at cmp o (some c) = fits cmp o c

module _ {K W : Type 0} (cmp : K → K → Ordering) where
  -- at every key
  abbrev pub apply : Snapshot K W → Delta K W → Snapshot K W
  apply = walk cmp apply_at

  -- the delta can be applied: at every key
  abbrev pub Applies : (W → W → Ordering) → Snapshot K W → Delta K W → Type 0
  Applies val A D = (k : K) → fits_at val (lookup cmp k A) (lookup cmp k D) ≡ true
