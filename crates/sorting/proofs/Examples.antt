-- Closed examples: three messages at 8, 28 and 48, the first of 192.0.2.1/32, the others both of 10.0.0.1/32.
use Prim.Native.Nat.{ℕ}
use mathlib.Core.Path.{◌≡◌, refl}
use mathlib.Core.List.{[], ◌∷◌, ◌++◌}
use lib.ListN.{replicate}
use Rattle.payload.specs.Content.{Bytes}
use Rattle.heard.specs.Place.{key_at, precedes}
use Rattle.sorting.specs.Sorted.{insert, sorted}

abbrev one : ℕ → ℕ → Bytes
one a b = 1 ∷ 4 ∷ 0 ∷ 0 ∷ 0 ∷ 0 ∷ 0 ∷ 20 ∷ 1 ∷ 32 ∷ 32 ∷ 0 ∷ a ∷ 0 ∷ b ∷ 1 ∷ 0 ∷ 0 ∷ 0 ∷ 7 ∷ []

abbrev s : Bytes
s = replicate 8 0 ++ (one 192 2 ++ (one 10 0 ++ one 10 0))

-- by the record, and of one record by the offset
in_order : sorted s (8 ∷ 28 ∷ 48 ∷ []) ≡ 28 ∷ 48 ∷ 8 ∷ []
unfolding sorted insert precedes key_at
in_order = refl
