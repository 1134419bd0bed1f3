-- The counts of tags are the counts of changes.
use Prim.Native.Nat.{ℕ, ◌+◌, ◌*◌, ◌%◌}
use mathlib.Core.Path.{◌≡◌, refl, sym, ap, ap₂, ◌∙◌}
use mathlib.Core.List.{[], ◌∷◌, map}
use mathlib.Core.Bool.{Bool, cond}
use mathlib.Core.Logic.{◌⊎◌, inl, inr}
use native.Mathlib.Omega.{arith}
use lib.ListN.{get_or}
use Rattle.change.specs.Change.{Change, announce, withdraw, update}
use Rattle.change.specs.Difference as change
use Rattle.number.specs.Bytes.{AllBytes}
use Rattle.body.specs.declared.tag.Form.TheVariants.{Delta}
use Rattle.field.specs.Verdict.{verdict}
use Rattle.field.specs.Cells.{cells}
use Rattle.field.proofs.Encode.{cells_encode}
use Rattle.payload.specs.Content.{Bytes, digit, cell_for}
use Rattle.payload.specs.Payload.{encode, changes}
use Rattle.payload.specs.Count.{is_announced, is_withdrawn, count_tags, announced_in, withdrawn_in, announces, withdraws, sum_of}
use Rattle.payload.proofs.Faithful.{faithful}
use Rattle.std.specs.Prelude.{Ok}

-- the last hex digit of a change's tag
last_digit : (k d : ℕ) → (d ≡ 1) ⊎ (d ≡ 2) ⊎ (d ≡ 3) → (k * 16 + d) % 16 ≡ d
last_digit k d (inl e) = omega arith
last_digit k d (inr (inl e)) = omega arith
last_digit k d (inr (inr e)) = omega arith

-- a test of tags that goes by the last digit, and the number that a change counts for
module _ (test : ℕ → Bool) (f : Change Bytes → ℕ) (agree : (k : ℕ) (c : Change Bytes) → cond (test (k * 16 + digit c)) 1 0 ≡ f c) where
  count_cells : (D : change.Delta Bytes Bytes) → count_tags test (map (cell_for Delta) D) ≡ sum_of f D
  count_cells [] = refl
  count_cells (x ∷ D) = ap₂ (λ (m n : ℕ). m + n) (agree (get_or x.key 0 0) x.val) (count_cells D)

  count_encode : (D : change.Delta Bytes Bytes) → count_tags test (cells (encode Delta D)) ≡ sum_of f D
  unfolding encode
  count_encode D = ap (count_tags test) (cells_encode (map (cell_for Delta) D)) ∙ count_cells D

agree_announced : (k : ℕ) (c : Change Bytes) → cond (is_announced (k * 16 + digit c)) 1 0 ≡ announces c
agree_announced k (announce n) = rw (last_digit k 1 (inl refl))
agree_announced k (withdraw p) = rw (last_digit k 2 (inr (inl refl)))
agree_announced k (update p n) = rw (last_digit k 3 (inr (inr refl)))

pub agree_withdrawn : (k : ℕ) (c : Change Bytes) → cond (is_withdrawn (k * 16 + digit c)) 1 0 ≡ withdraws c
agree_withdrawn k (announce n) = rw (last_digit k 1 (inl refl))
agree_withdrawn k (withdraw p) = rw (last_digit k 2 (inr (inl refl)))
agree_withdrawn k (update p n) = rw (last_digit k 3 (inr (inr refl)))

-- of the bytes of changes
pub announced_encode : (D : change.Delta Bytes Bytes) → announced_in (encode Delta D) ≡ sum_of announces D
announced_encode D = count_encode is_announced announces agree_announced D

pub withdrawn_encode : (D : change.Delta Bytes Bytes) → withdrawn_in (encode Delta D) ≡ sum_of withdraws D
withdrawn_encode D = count_encode is_withdrawn withdraws agree_withdrawn D

-- of a good delta
module _ (s : Bytes) (o : AllBytes s) (e : verdict Delta s ≡ Ok tt) where
  pub announced_changes : announced_in s ≡ sum_of announces (changes s)
  announced_changes = ap announced_in (sym ((faithful Delta).bytes_back s o e)) ∙ announced_encode (changes s)

  pub withdrawn_changes : withdrawn_in s ≡ sum_of withdraws (changes s)
  withdrawn_changes = ap withdrawn_in (sym ((faithful Delta).bytes_back s o e)) ∙ withdrawn_encode (changes s)
