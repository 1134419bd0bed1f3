-- The ways of grouping merges: at each step two neighbours are merged.
use Rattle.std.specs.Prelude.{List, [], ◌∷◌, ◌++◌}

pub data Grouping (D : Type 0) : Type 0 where
  alone : (delta : D) → Grouping D
  grouped : (earlier later : Grouping D) → Grouping D

-- what is grouped, earliest first
abbrev pub leaves : {D : Type 0} → Grouping D → List D
leaves (alone d) = d ∷ []
leaves (grouped l r) = leaves l ++ leaves r

-- merged as grouped, the earlier side first
abbrev pub merge_tree : {D : Type 0} → (D → D → D) → Grouping D → D
merge_tree merge (alone d) = d
merge_tree merge (grouped l r) = merge (merge_tree merge l) (merge_tree merge r)

-- the differences from each snapshot of a chain to the next: first S, then those of Ts
abbrev pub steps : {S D : Type 0} → (S → S → D) → S → List S → List D
steps difference S [] = []
steps difference S (T ∷ Ts) = difference S T ∷ steps difference T Ts
