-- The body of an ASPA: customer 4, then the providers; and of the update of one.
use Rattle.std.specs.Prelude.{ℕ, ◌+◌, ◌-◌, ◌*◌, ◌/◌, ◌%◌, List, [], ◌∷◌, Bool, true, false, not, ◌&&◌, ◌||◌, length, take, drop, leb, ltb, eqb}
use Rattle.number.specs.Number.{four, two_at, four_at}

-- the AS numbers of four bytes each; a rest of fewer than four bytes is none
unfoldable pub asns : List ℕ → List ℕ
asns [] = []
asns (a ∷ []) = []
asns (a ∷ b ∷ []) = []
asns (a ∷ b ∷ c ∷ []) = []
asns (a ∷ b ∷ c ∷ d ∷ s) = four a b c d ∷ asns s

-- each number is above the one before it, and the first above x
unfoldable pub ascending_from : ℕ → List ℕ → Bool
ascending_from x [] = true
ascending_from x (y ∷ ys) = ltb x y && ascending_from y ys

-- strictly ascending
unfoldable pub ascending : List ℕ → Bool
ascending [] = true
ascending (x ∷ xs) = ascending_from x xs

-- 0 to 4,096 providers of 4, strictly ascending
unfoldable pub good_providers : List ℕ → Bool
good_providers l = leb (length l / 4) 4_096 && eqb (length l % 4) 0 && ascending (asns l)

-- customer 4, then the providers
unfoldable pub good_aspa : List ℕ → Bool
good_aspa b = leb 4 (length b) && good_providers (drop 4 b)

-- how many bytes the former providers of an update take, by its count
abbrev pub former_size : List ℕ → ℕ
former_size b = two_at b 4 * 4

-- the former providers of an update
abbrev pub former_of : List ℕ → List ℕ
former_of b = take (former_size b) (drop 6 b)

-- the new providers of an update
abbrev pub new_of : List ℕ → List ℕ
new_of b = drop (6 + former_size b) b

-- customer 4, two-byte count of former providers, those, then the new ones
unfoldable pub good_update : List ℕ → Bool
good_update b =
    leb 6 (length b) && leb (former_size b) (length b - 6) && good_providers (former_of b) && good_providers (new_of b)

-- ---- which ASPAs make sense

-- a number stands in a list
unfoldable pub is_in : ℕ → List ℕ → Bool
is_in x [] = false
is_in x (y ∷ ys) = eqb y x || is_in x ys

-- there is a provider, and none is the customer
unfoldable pub sensible_asns : ℕ → List ℕ → Bool
sensible_asns customer [] = false
sensible_asns customer (x ∷ xs) = not (is_in customer (x ∷ xs))

-- the providers, by their bytes, make sense for the customer, by its four bytes
unfoldable pub sensible_providers : List ℕ → List ℕ → Bool
sensible_providers customer l = sensible_asns (four_at customer 0) (asns l)

-- the customer, in the body of an ASPA and of an update
abbrev pub customer_of : List ℕ → List ℕ
customer_of b = take 4 b

-- the providers of an ASPA make sense
unfoldable pub sensible_aspa : List ℕ → Bool
sensible_aspa b = sensible_providers (customer_of b) (drop 4 b)

-- and of an update the former ones and the new ones
unfoldable pub sensible_update : List ℕ → Bool
sensible_update b = sensible_providers (customer_of b) (former_of b) && sensible_providers (customer_of b) (new_of b)
