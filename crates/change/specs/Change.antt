-- What may become of one key. The value of an ASPA is its providers; an origin or a router key has the empty value.
use Rattle.std.proofs.Math.Option.{Option, none, some}
use Rattle.std.specs.declared.cmp.Ordering.{Ordering}
use Rattle.std.specs.declared.cmp.Ordering.TheVariants.{Less, Equal, Greater}

pub data Change (W : Type 0) : Type 0 where
  announce : (new : W) → Change W
  withdraw : (former : W) → Change W
  update : (former new : W) → Change W

-- something, unless a comparison found two things equal
abbrev pub unless_equal : {C : Type 0} → Ordering → C → Option C
unless_equal Less c = some c
unless_equal Equal c = none
unless_equal Greater c = some c

-- nothing if p is the new value, else update(p)
abbrev pub replace : {W : Type 0} → (W → W → Ordering) → W → W → Option (Change W)
replace cmp p n = unless_equal (cmp p n) (update p n)
