-- A reader over small deltas, computed.
use Prim.Native.Nat.{ℕ}
use mathlib.Core.Path.{◌≡◌, refl}
use mathlib.Core.List.{List, [], ◌∷◌, ◌++◌}
use Rattle.std.specs.Borrow.{Bor}
use Rattle.field.specs.declared.head.Field.TheVariants.{End, Cut, Whole}
use Rattle.field.specs.Head.{front, field_at}
use Rattle.field.specs.Cells.{cells_f, cells}
use Rattle.reader.specs.Step.{start}
use Rattle.reader.specs.Stepping.{answers, steps}
use Rattle.reader.specs.Count.{tally_of}

-- a customer's ASPA announced, with no provider; another's withdrawn, with one
abbrev announced : List ℕ
announced = 0x31 ∷ 0 ∷ 4 ∷ 0 ∷ 0 ∷ 0 ∷ 1 ∷ []

abbrev withdrawn : List ℕ
withdrawn = 0x32 ∷ 0 ∷ 8 ∷ 0 ∷ 0 ∷ 0 ∷ 2 ∷ 0 ∷ 0 ∷ 0 ∷ 9 ∷ []

module _ (p : ℕ × ℕ) where
  abbrev lent : List ℕ → Bor (List ℕ)
  lent s = record { ref_ptr = p; now = s }

  -- each field once, then the end, and again
  both : answers 4 (start (lent (announced ++ withdrawn))) ≡ Whole 0x31 3 7 ∷ Whole 0x32 10 18 ∷ End ∷ End ∷ []
  unfolding answers field_at front
  both = refl

  -- it stands behind the last field, and stays
  behind_both : (steps 4 (start (lent (announced ++ withdrawn)))).at ≡ 18
  unfolding steps field_at front
  behind_both = refl

  -- a field that is cut short is never passed
  short : answers 3 (start (lent (announced ++ 0x32 ∷ 0 ∷ []))) ≡ Whole 0x31 3 7 ∷ Cut ∷ Cut ∷ []
  unfolding answers field_at front
  short = refl

  behind_short : (steps 3 (start (lent (announced ++ 0x32 ∷ 0 ∷ [])))).at ≡ 7
  unfolding steps field_at front
  behind_short = refl

  empty : answers 2 (start (lent [])) ≡ End ∷ End ∷ []
  unfolding answers field_at front
  empty = refl

counted : tally_of (announced ++ withdrawn ++ announced) ≡ record { announced = 2; withdrawn = 1 }
unfolding cells cells_f front
counted = refl
