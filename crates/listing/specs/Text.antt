-- Text as bytes.
use Rattle.std.specs.Prelude.{ℕ, zero, suc, ◌+◌, ◌/◌, ◌%◌, List, [], ◌∷◌, ◌++◌, cond, ltb}
use Prim.Native.Char.{code}
use Prim.Native.String.{String, [] as nil, ◌∷◌ as ◌then◌}

-- the ASCII codes of a text
abbrev pub ascii : String → List ℕ
ascii nil = []
ascii (c then s) = code c ∷ ascii s

-- a hex digit: 0 to 9, then a to f
abbrev pub hex_digit : ℕ → ℕ
hex_digit d = cond (ltb d 10) (48 + d) (87 + d)

-- the decimal digits of n, without zeros in front, k at most
unfoldable pub decimal_f : ℕ → ℕ → List ℕ
decimal_f zero n = []
decimal_f (suc k) n = cond (ltb n 10) [] (decimal_f k (n / 10)) ++ ((48 + n % 10) ∷ [])

-- the same of a number of 64 bits: it has at most 20 digits
unfoldable pub decimal : ℕ → List ℕ
decimal n = decimal_f 20 n
