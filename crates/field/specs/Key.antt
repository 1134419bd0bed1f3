-- The key of a field.
use Rattle.std.specs.Prelude.{ℕ, List, ◌∷◌, cond, take, eqb}

-- the kind, then the whole body; of an ASPA (kind 3) the customer alone
unfoldable pub key_of : ℕ → List ℕ → List ℕ
key_of kind b = kind ∷ cond (eqb kind 3) (take 4 b) b
