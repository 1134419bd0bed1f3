-- How much of a list is left where a loop over it stops.
use Rattle.std.specs.Prelude.{ℕ, ◌≡◌, Bool, true, false}

-- nothing is left exactly if t holds
pub record Leaves (left : ℕ) (t : Bool) : Type 0 where
  pub none : left ≡ 0 → true ≡ t
  pub some : (left ≡ 0 → ⊥) → false ≡ t
