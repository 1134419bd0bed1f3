-- How many items a delta announces and withdraws.
use Rattle.std.specs.Prelude.{ℕ, ◌+◌, ◌%◌, List, [], ◌∷◌, Bool, cond, ◌||◌, eqb}
use Rattle.change.specs.Change.{Change, announce, withdraw, update}
use Rattle.change.specs.Difference.{Delta}
use Rattle.field.specs.Cells.{Cell, cells}
use Rattle.payload.specs.Content.{Bytes}

-- the tag's last hex digit is 1 or 3; it is 2
abbrev pub is_announced : ℕ → Bool
is_announced tag = eqb (tag % 16) 1 || eqb (tag % 16) 3

abbrev pub is_withdrawn : ℕ → Bool
is_withdrawn tag = eqb (tag % 16) 2

-- how many fields have a tag that passes a test
abbrev pub count_tags : (ℕ → Bool) → List Cell → ℕ
count_tags test [] = 0
count_tags test (c ∷ cs) = cond (test c.tag) 1 0 + count_tags test cs

abbrev pub announced_in : Bytes → ℕ
announced_in s = count_tags is_announced (cells s)

abbrev pub withdrawn_in : Bytes → ℕ
withdrawn_in s = count_tags is_withdrawn (cells s)

-- how many changes announce (an update does) and withdraw
abbrev pub announces : Change Bytes → ℕ
announces (announce n) = 1
announces (withdraw p) = 0
announces (update p n) = 1

abbrev pub withdraws : Change Bytes → ℕ
withdraws (announce n) = 0
withdraws (withdraw p) = 1
withdraws (update p n) = 0

abbrev pub sum_of : (Change Bytes → ℕ) → Delta Bytes Bytes → ℕ
sum_of f [] = 0
sum_of f (x ∷ D) = f x.val + sum_of f D
