-- Examples, computed: each rule at its limits, on both sides.
use Prim.Native.Nat.{ℕ, zero, suc, ◌+◌, ◌/◌, ◌%◌}
use mathlib.Core.Path.{◌≡◌, refl}
use mathlib.Core.List.{List, [], ◌∷◌, ◌++◌}
use mathlib.Core.Bool.{true, false}
use Rattle.body.specs.declared.tag.Form.TheVariants.{Snapshot, Delta}
use Rattle.body.specs.Origin.{clean, good_prefix, good_origin}
use Rattle.body.specs.RouterKey.{good_router_key}
use Rattle.body.specs.Aspa.{asns, ascending_from, ascending, good_providers, good_aspa, good_update, is_in, sensible_asns, sensible_providers, sensible_aspa, sensible_update}
use Rattle.body.specs.Tag.{tag_of, good_body}

-- n zero bytes
abbrev pub zeros : ℕ → List ℕ
zeros zero = []
zeros (suc n) = 0 ∷ zeros n

-- ---- origins

-- an origin of AS 64496, its address 16 bytes
abbrev pub origin : (family : ℕ) (address : List ℕ) (prefix maximum : ℕ) → List ℕ
origin family address prefix maximum = family ∷ address ++ prefix ∷ maximum ∷ 0 ∷ 0 ∷ 251 ∷ 240 ∷ []

-- 192.0.2.0, and 2001:db8::
abbrev pub net4 : List ℕ
net4 = 192 ∷ 0 ∷ 2 ∷ 0 ∷ zeros 12

abbrev net6 : List ℕ
net6 = 0x20 ∷ 0x01 ∷ 0x0d ∷ 0xb8 ∷ zeros 12

-- prefix lengths 0, 32 and 33 of family 4; 128 and 129 of family 6
prefixes : (good_origin (origin 4 (zeros 16) 0 0) ≡ true)
    × (good_origin (origin 4 net4 32 32) ≡ true)
    × (good_origin (origin 4 net4 33 33) ≡ false)
    × (good_origin (origin 6 (zeros 16) 0 0) ≡ true)
    × (good_origin (origin 6 net6 128 128) ≡ true)
    × (good_origin (origin 6 net6 129 129) ≡ false)
unfolding good_origin good_prefix clean
prefixes = (refl, refl, refl, refl, refl, refl)

-- the maximum length one below the prefix length, at it, at the bound, and one above the bound
maxima : (good_origin (origin 4 net4 24 23) ≡ false)
    × (good_origin (origin 4 net4 24 24) ≡ true)
    × (good_origin (origin 4 net4 24 32) ≡ true)
    × (good_origin (origin 4 net4 24 33) ≡ false)
    × (good_origin (origin 6 net6 32 31) ≡ false)
    × (good_origin (origin 6 net6 32 32) ≡ true)
    × (good_origin (origin 6 net6 32 128) ≡ true)
    × (good_origin (origin 6 net6 32 129) ≡ false)
unfolding good_origin good_prefix clean
maxima = (refl, refl, refl, refl, refl, refl, refl, refl)

-- 192.0.2.0 has its last bit at place 23: prefix 23 just holds it, 22 does not. A bit of the first byte past prefix 0.
bits : (good_origin (origin 4 net4 23 24) ≡ true)
    × (good_origin (origin 4 net4 22 24) ≡ false)
    × (good_origin (origin 4 (128 ∷ zeros 15) 1 1) ≡ true)
    × (good_origin (origin 4 (128 ∷ zeros 15) 0 1) ≡ false)
    × (good_origin (origin 6 (zeros 15 ++ 1 ∷ []) 128 128) ≡ true)
    × (good_origin (origin 6 (zeros 15 ++ 1 ∷ []) 127 128) ≡ false)
unfolding good_origin good_prefix clean
bits = (refl, refl, refl, refl, refl, refl)

-- another family; an IPv4 address with a byte past its first four; a body a byte short and a byte long
origins : (good_origin (origin 5 net4 24 24) ≡ false)
    × (good_origin (origin 4 (192 ∷ 0 ∷ 2 ∷ 0 ∷ 1 ∷ zeros 11) 32 32) ≡ false)
    × (good_origin (origin 4 (192 ∷ 0 ∷ 2 ∷ 0 ∷ zeros 11 ++ 1 ∷ []) 32 32) ≡ false)
    × (good_origin (4 ∷ net4 ++ 24 ∷ 24 ∷ 0 ∷ 0 ∷ 251 ∷ []) ≡ false)
    × (good_origin (4 ∷ net4 ++ 24 ∷ 24 ∷ 0 ∷ 0 ∷ 251 ∷ 240 ∷ 0 ∷ []) ≡ false)
unfolding good_origin good_prefix clean
origins = (refl, refl, refl, refl, refl)

-- ---- router keys: 23 bytes; key info of 0, 1,024 and 1,025 bytes

keys : (good_router_key (zeros 23) ≡ false)
    × (good_router_key (zeros 24) ≡ true)
    × (good_router_key (zeros 1_048) ≡ true)
    × (good_router_key (zeros 1_049) ≡ false)
unfolding good_router_key
keys = (refl, refl, refl, refl)

-- ---- ASPAs

-- an AS number below 65,536 as four bytes
abbrev pub asn : ℕ → List ℕ
asn n = 0 ∷ 0 ∷ n / 256 ∷ n % 256 ∷ []

-- n providers from k on
abbrev run : (n k : ℕ) → List ℕ
run zero k = []
run (suc n) k = asn k ++ run n (k + 1)

-- no provider; one that is cut; ascending, equal and descending neighbours
aspas : (good_aspa (asn 64_496) ≡ true)
    × (good_aspa (0 ∷ 0 ∷ 251 ∷ []) ≡ false)
    × (good_aspa (asn 64_496 ++ 0 ∷ 0 ∷ 0 ∷ []) ≡ false)
    × (good_aspa (asn 64_496 ++ asn 1 ++ asn 2 ++ asn 300) ≡ true)
    × (good_aspa (asn 64_496 ++ asn 1 ++ asn 2 ++ asn 2) ≡ false)
    × (good_aspa (asn 64_496 ++ asn 1 ++ asn 300 ++ asn 299) ≡ false)
    × (good_aspa (asn 64_496 ++ asn 0 ++ asn 0) ≡ false)
unfolding good_aspa good_providers asns ascending ascending_from
aspas = (refl, refl, refl, refl, refl, refl, refl)

-- 0, 4,096 and 4,097 providers
counts : (good_providers [] ≡ true)
    × (good_providers (run 4_096 0) ≡ true)
    × (good_providers (run 4_097 0) ≡ false)
unfolding good_providers asns ascending ascending_from
counts = (refl, refl, refl)

-- an update: from no provider to none; a list on either side; a count one too high; either list not ascending or cut;
-- a head of five bytes; 4,096 providers on either side, and one more
updates : (good_update (asn 1 ++ 0 ∷ 0 ∷ []) ≡ true)
    × (good_update (asn 1 ++ 0 ∷ 1 ∷ asn 2) ≡ true)
    × (good_update (asn 1 ++ 0 ∷ 0 ∷ asn 2) ≡ true)
    × (good_update (asn 1 ++ 0 ∷ 2 ∷ asn 2 ++ asn 3 ++ asn 2 ++ asn 4) ≡ true)
    × (good_update (asn 1 ++ 0 ∷ 3 ∷ asn 2 ++ asn 3) ≡ false)
    × (good_update (asn 1 ++ 1 ∷ 0 ∷ asn 2 ++ asn 3) ≡ false)
    × (good_update (asn 1 ++ 0 ∷ 2 ∷ asn 3 ++ asn 3) ≡ false)
    × (good_update (asn 1 ++ 0 ∷ 1 ∷ asn 2 ++ asn 4 ++ asn 3) ≡ false)
    × (good_update (asn 1 ++ 0 ∷ 1 ∷ asn 2 ++ 0 ∷ 0 ∷ 0 ∷ []) ≡ false)
    × (good_update (asn 1 ++ 0 ∷ []) ≡ false)
    × (good_update (asn 1 ++ 16 ∷ 0 ∷ run 4_096 0 ++ run 4_096 0) ≡ true)
    × (good_update (asn 1 ++ 16 ∷ 1 ∷ run 4_097 0 ++ run 4_096 0) ≡ false)
    × (good_update (asn 1 ++ 16 ∷ 0 ∷ run 4_096 0 ++ run 4_097 0) ≡ false)
unfolding good_update good_providers asns ascending ascending_from
updates = (refl, refl, refl, refl, refl, refl, refl, refl, refl, refl, refl, refl, refl)

-- which ASPAs make sense: no provider; one; the customer alone, first, last and in between; its neighbours; 4,096
-- providers with the customer behind them and as the last; a customer that has the bytes of its provider the other way round
sense : (sensible_aspa (asn 1) ≡ false)
    × (sensible_aspa (asn 1 ++ asn 2) ≡ true)
    × (sensible_aspa (asn 2 ++ asn 2) ≡ false)
    × (sensible_aspa (asn 1 ++ asn 1 ++ asn 3) ≡ false)
    × (sensible_aspa (asn 3 ++ asn 1 ++ asn 3) ≡ false)
    × (sensible_aspa (asn 2 ++ asn 1 ++ asn 2 ++ asn 3) ≡ false)
    × (sensible_aspa (asn 2 ++ asn 1 ++ asn 3) ≡ true)
    × (sensible_aspa (asn 4_096 ++ run 4_096 0) ≡ true)
    × (sensible_aspa (asn 4_095 ++ run 4_096 0) ≡ false)
    × (sensible_aspa (asn 258 ++ asn 513) ≡ true)
unfolding sensible_aspa sensible_providers sensible_asns is_in asns
sense = (refl, refl, refl, refl, refl, refl, refl, refl, refl, refl)

-- which updates: both lists, the former alone, the new alone and neither; the customer in the former, in the new; one list
-- twice; a count of one too many, so that all is in the former
update_sense : (sensible_update (asn 1 ++ 0 ∷ 0 ∷ []) ≡ false)
    × (sensible_update (asn 1 ++ 0 ∷ 0 ∷ asn 2) ≡ false)
    × (sensible_update (asn 1 ++ 0 ∷ 1 ∷ asn 2) ≡ false)
    × (sensible_update (asn 1 ++ 0 ∷ 1 ∷ asn 2 ++ asn 3) ≡ true)
    × (sensible_update (asn 1 ++ 0 ∷ 2 ∷ asn 1 ++ asn 2 ++ asn 3) ≡ false)
    × (sensible_update (asn 3 ++ 0 ∷ 1 ∷ asn 2 ++ asn 1 ++ asn 3) ≡ false)
    × (sensible_update (asn 1 ++ 0 ∷ 1 ∷ asn 2 ++ asn 2) ≡ true)
    × (sensible_update (asn 1 ++ 0 ∷ 2 ∷ asn 2 ++ asn 3) ≡ false)
unfolding sensible_update sensible_providers sensible_asns is_in asns
update_sense = (refl, refl, refl, refl, refl, refl, refl, refl)

-- ---- tags

-- unknown ones: no body is good
unknown : (good_body Snapshot 0 (asn 1) ≡ false)
    × (good_body Snapshot 4 (asn 1) ≡ false)
    × (good_body Snapshot 0x31 (asn 1) ≡ false)
    × (good_body Delta 0x03 (asn 1) ≡ false)
    × (good_body Delta 0x13 (origin 4 net4 24 24) ≡ false)
    × (good_body Delta 0x23 (zeros 24) ≡ false)
    × (good_body Delta 0x30 (asn 1) ≡ false)
    × (good_body Delta 0x34 (asn 1) ≡ false)
unfolding good_body tag_of
unknown = (refl, refl, refl, refl, refl, refl, refl, refl)
