-- A list with some members left out.
use Rattle.std.specs.Prelude.{List, [], ◌∷◌}

-- the first list is the second with some members left out, in order
pub data Part {A : Type 0} : List A → List A → Type 0 where
  end : Part [] []
  kept : (x : A) {a b : List A} → Part a b → Part (x ∷ a) (x ∷ b)
  left_out : (y : A) {a b : List A} → Part a b → Part a (y ∷ b)
