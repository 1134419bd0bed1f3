-- Finite maps as strictly ascending lists of keys with what stands at them.
use Rattle.std.specs.Prelude.{◌≡◌, List, [], ◌∷◌}
use Rattle.std.proofs.Math.Option.{Option, none, some}
use Rattle.std.specs.declared.cmp.Ordering.{Ordering}
use Rattle.std.specs.declared.cmp.Ordering.TheVariants.{Less, Equal, Greater}

pub record Item (K A : Type 0) : Type 0 where
  pub key : K
  pub val : A

-- each member of a list
abbrev pub All : {A : Type 0} → (A → Type 0) → List A → Type 0
All P [] = Unit {0}
All P (x ∷ l) = P x × All P l

-- what stands at an item's key if the key asked for is that one, else what the rest says
abbrev pub own : {A : Type 0} → Ordering → Option A → Option A → Option A
own Less o rest = rest
own Equal o rest = o
own Greater o rest = rest

module _ {K A : Type 0} (cmp : K → K → Ordering) where
  -- what stands at a key, if anything does
  abbrev pub lookup : K → List (Item K A) → Option A
  lookup k [] = none
  lookup k (x ∷ a) = own (cmp k x.key) (some x.val) (lookup k a)

  -- the key stands below the first of a list
  abbrev pub Below : K → List (Item K A) → Type 0
  Below k [] = Unit {0}
  Below k (x ∷ a) = cmp k x.key ≡ Less

  -- each key stands below the next
  abbrev pub Sorted : List (Item K A) → Type 0
  Sorted [] = Unit {0}
  Sorted (x ∷ a) = Below x.key a × Sorted a
