-- One walk over two ascending lists: f says what becomes of a key from what each side has there.
use Rattle.std.specs.Prelude.{List, [], ◌∷◌}
use Rattle.std.proofs.Math.Option.{Option, none, some}
use Rattle.std.specs.declared.cmp.Ordering.{Ordering}
use Rattle.std.specs.declared.cmp.Ordering.TheVariants.{Less, Equal, Greater}
use Rattle.order.specs.Map.{Item}

-- what a key yields goes in front, if it yields anything
abbrev pub emit : {K C : Type 0} → K → Option C → List (Item K C) → List (Item K C)
emit k none rest = rest
emit k (some c) rest = record { key = k; val = c } ∷ rest

module _ {K A B C : Type 0} (cmp : K → K → Ordering) (f : Option A → Option B → Option C) where
  -- the lower key goes first; where one side has run out, the rest of the other follows
  unfoldable pub walk : List (Item K A) → List (Item K B) → List (Item K C)
  walk [] [] = []
  walk [] (y ∷ b) = emit y.key (f none (some y.val)) (walk [] b)
  walk (x ∷ a) [] = emit x.key (f (some x.val) none) (walk a [])
  walk (x ∷ a) (y ∷ b) = elim (cmp x.key y.key) [
    | Less ↦ emit x.key (f (some x.val) none) (walk a (y ∷ b))
    | Equal ↦ emit x.key (f (some x.val) (some y.val)) (walk a b)
    | Greater ↦ emit y.key (f none (some y.val)) (walk (x ∷ a) b)
  ]
