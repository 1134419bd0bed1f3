-- Comparison: of numbers, of lists, and what makes a comparison a total order.
use Rattle.std.specs.Prelude.{◌≡◌, List, [], ◌∷◌, Bool, ℕ}
use Rattle.std.specs.Ordering.{ordering_reverse, ordering_then, is_lt, nat_cmp}
use Rattle.std.specs.declared.cmp.Ordering.{Ordering}
use Rattle.std.specs.declared.cmp.Ordering.TheVariants.{Less, Equal, Greater}

-- the answer with the two sides exchanged
abbrev pub flip : Ordering → Ordering
flip = ordering_reverse

-- the first stands below the second
abbrev pub is_less : Ordering → Bool
is_less = is_lt

-- the first comparison decides, or else the second
abbrev pub or_else : Ordering → Ordering → Ordering
or_else = ordering_then

-- two numbers
abbrev pub number : ℕ → ℕ → Ordering
number = nat_cmp

-- two lists: element by element, a proper prefix first
abbrev pub lex : {A : Type 0} → (A → A → Ordering) → List A → List A → Ordering
lex cmp [] [] = Equal
lex cmp [] (y ∷ b) = Less
lex cmp (x ∷ a) [] = Greater
lex cmp (x ∷ a) (y ∷ b) = or_else (cmp x y) (lex cmp a b)

-- two byte strings
abbrev pub bytes : List ℕ → List ℕ → Ordering
bytes = lex number

-- a comparison that is a total order
pub record TotalOrder {K : Type 0} (cmp : K → K → Ordering) : Type 0 where
  pub self : (k : K) → cmp k k ≡ Equal
  pub same : (k l : K) → cmp k l ≡ Equal → k ≡ l
  pub turn : (k l : K) → cmp l k ≡ flip (cmp k l)
  pub trans : (k l m : K) → cmp k l ≡ Less → cmp l m ≡ Less → cmp k m ≡ Less
