-- Closed examples: three messages at 8, 28 and 48, the first of 192.0.2.1/32, the others both of 10.0.0.1/32.
use Rattle.std.proofs.Common.{◌≡◌, ℕ, [], ◌∷◌, ◌++◌, replicate, refl}
use Rattle.payload.specs.Content.{Bytes}
use Rattle.heard.specs.Place.{key_at, precedes}
use Rattle.sorting.specs.Sorted.{insert, sorted}
use Rattle.batch.specs.Next.{is_above, above, left}
use Rattle.batch.specs.Keep.{only, is_up_to, is_wanted}

abbrev one : ℕ → ℕ → Bytes
one a b = 1 ∷ 4 ∷ 0 ∷ 0 ∷ 0 ∷ 0 ∷ 0 ∷ 20 ∷ 1 ∷ 32 ∷ 32 ∷ 0 ∷ a ∷ 0 ∷ b ∷ 1 ∷ 0 ∷ 0 ∷ 0 ∷ 7 ∷ []

abbrev s : Bytes
s = replicate 8 0 ++ (one 192 2 ++ (one 10 0 ++ one 10 0))

-- by the record, and of one record by the offset
all_left : left s 0 (8 ∷ 28 ∷ 48 ∷ []) ≡ 28 ∷ 48 ∷ 8 ∷ []
unfolding sorted insert precedes key_at is_above above
all_left = refl

left_behind : left s 28 (8 ∷ 28 ∷ 48 ∷ []) ≡ 48 ∷ 8 ∷ []
unfolding sorted insert precedes key_at is_above above
left_behind = refl

none_left : left s 8 (8 ∷ 28 ∷ 48 ∷ []) ≡ []
unfolding sorted insert precedes key_at is_above above
none_left = refl

up_to_top : only (is_wanted s 28 48) (8 ∷ 28 ∷ 48 ∷ []) ≡ 48 ∷ []
unfolding precedes key_at is_above is_up_to is_wanted
up_to_top = refl

any_top : only (is_wanted s 28 0) (8 ∷ 28 ∷ 48 ∷ []) ≡ 8 ∷ 48 ∷ []
unfolding precedes key_at is_above is_up_to is_wanted
any_top = refl
