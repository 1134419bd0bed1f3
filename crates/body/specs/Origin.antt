-- The body of an origin: family, address 16, prefix length, maximum length, AS number 4.
use Rattle.std.specs.Prelude.{ℕ, ◌-◌, ◌%◌, ◌^◌, List, [], ◌∷◌, Bool, true, cond, ◌&&◌, length, get_or, take, drop, leb, eqb}

-- its first byte
abbrev pub family : List ℕ → ℕ
family b = get_or b 0 0

-- the 16 bytes behind the family
abbrev pub address : List ℕ → List ℕ
address b = take 16 (drop 1 b)

-- the byte behind the address
abbrev pub prefix_length : List ℕ → ℕ
prefix_length b = get_or b 17 0

-- the byte behind that
abbrev pub maximum_length : List ℕ → ℕ
maximum_length b = get_or b 18 0

-- the byte x has no bit past a prefix of p bits: its last 8 - p bits are zero
abbrev pub clean_byte : ℕ → ℕ → Bool
clean_byte p x = eqb (x % 2 ^ (8 - p)) 0

-- the bits past a prefix of p bits are zero
unfoldable pub clean : ℕ → List ℕ → Bool
clean p [] = true
clean p (x ∷ xs) = clean_byte p x && clean (p - 8) xs

-- the maximum length is between prefix length and bound, and address bits past the prefix are zero.
-- At the bound 32 that says too that of an IPv4 address all bytes but the first 4 are zero.
unfoldable pub good_prefix : ℕ → List ℕ → Bool
good_prefix bound b =
    leb (prefix_length b) (maximum_length b) && leb (maximum_length b) bound && clean (prefix_length b) (address b)

-- 23 bytes of family 4, with the bound 32, or of family 6, with the bound 128
unfoldable pub good_origin : List ℕ → Bool
good_origin b =
    eqb (length b) 23 && cond (eqb (family b) 4) (good_prefix 32 b) (eqb (family b) 6 && good_prefix 128 b)
