-- The field at the front of a run of fields.
use Rattle.std.specs.Prelude.{ℕ, ◌+◌, List, [], ◌∷◌, cond, length, take, drop, leb}
use Rattle.number.specs.Number.{two}
use Rattle.field.specs.declared.head.Field.{Field}
use Rattle.field.specs.declared.head.Field.TheVariants.{End, Cut, Whole}

-- nothing; a field that is cut short; a field, and the bytes behind it
pub data Front : Type 0 where
  end : Front
  cut : Front
  whole : (tag : ℕ) (body rest : List ℕ) → Front

-- one-byte tag, two-byte length n, n bytes of body
unfoldable pub front : List ℕ → Front
front [] = end
front (tag ∷ []) = cut
front (tag ∷ a ∷ []) = cut
front (tag ∷ a ∷ b ∷ s) = cond (leb (two a b) (length s)) (whole tag (take (two a b) s) (drop (two a b) s)) cut

-- where the field that stands at `at` has its body: behind its three-byte head
abbrev pub place : ℕ → Front → Field
place at end = End
place at cut = Cut
place at (whole tag b rest) = Whole tag (at + 3) (at + 3 + length b)

-- the field of s at `at`
unfoldable pub field_at : List ℕ → ℕ → Field
field_at s at = place at (front (drop at s))
