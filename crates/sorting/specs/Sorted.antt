-- Offsets in message order.
use Rattle.std.specs.Prelude.{ℕ, List, [], ◌∷◌, cond}
use Rattle.payload.specs.Content.{Bytes}
use Rattle.heard.specs.Place.{precedes}

-- an offset put into its place
unfoldable pub insert : Bytes → ℕ → List ℕ → List ℕ
insert s x [] = x ∷ []
insert s x (y ∷ ys) = cond (precedes s x y) (x ∷ y ∷ ys) (y ∷ insert s x ys)

-- offsets in message order
unfoldable pub sorted : Bytes → List ℕ → List ℕ
sorted s [] = []
sorted s (x ∷ xs) = insert s x (sorted s xs)
