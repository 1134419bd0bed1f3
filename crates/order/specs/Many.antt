-- The walk over many lists at once, always at the least of their first keys.
use mathlib.Core.List.{List, [], ◌∷◌, foldl}
use Rattle.std.proofs.Math.Option.{Option, none, some}
use Rattle.std.specs.declared.cmp.Ordering.{Ordering}
use Rattle.std.specs.declared.cmp.Ordering.TheVariants.{Less, Equal, Greater}
use Rattle.order.specs.Map.{Item, own}
use Rattle.order.specs.Walk.{walk}

-- the lower of two, by their comparison
abbrev pub lower_of : {K : Type 0} → Ordering → K → K → K
lower_of Less k l = k
lower_of Equal k l = k
lower_of Greater k l = l

-- a list without its first item, if that has the key asked for
abbrev pub past_of : {K A : Type 0} → Ordering → Item K A → List (Item K A) → List (Item K A)
past_of Less x a = x ∷ a
past_of Equal x a = a
past_of Greater x a = x ∷ a

module _ {K A : Type 0} (cmp : K → K → Ordering) where
  -- all lists walked, the first one first
  abbrev pub walk_all : (Option A → Option A → Option A) → List (List (Item K A)) → List (Item K A)
  walk_all f = foldl (walk cmp f) []

  -- the lower of a key, if there is one, and a list's first
  abbrev pub lower : Option K → List (Item K A) → Option K
  lower o [] = o
  lower none (x ∷ a) = some x.key
  lower (some k) (x ∷ a) = some (lower_of (cmp k x.key) k x.key)

  -- the least of the first keys, if there is one
  abbrev pub least : List (List (Item K A)) → Option K
  least = foldl lower none

  -- what a list's first item says of a key
  abbrev pub first : K → List (Item K A) → Option A
  first k [] = none
  first k (x ∷ a) = own (cmp k x.key) (some x.val) none

  -- a list behind a key
  abbrev pub past : K → List (Item K A) → List (Item K A)
  past k [] = []
  past k (x ∷ a) = past_of (cmp k x.key) x a
