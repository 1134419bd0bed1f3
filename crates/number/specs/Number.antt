-- Numbers of several bytes: big-endian.
use Rattle.std.specs.Prelude.{ℕ, ◌+◌, ◌*◌, ◌/◌, ◌%◌, List, [], ◌∷◌, ◌++◌, get_or}
use Rattle.serial.specs.declared.Asn.{Asn}

-- two bytes as a number
abbrev pub two : ℕ → ℕ → ℕ
two a b = a * 256 + b

-- four bytes as a number
abbrev pub four : ℕ → ℕ → ℕ → ℕ → ℕ
four a b c d = ((a * 256 + b) * 256 + c) * 256 + d

-- the number of the two bytes at i
abbrev pub two_at : List ℕ → ℕ → ℕ
two_at s i = two (get_or s i 0) (get_or s (i + 1) 0)

-- the number of the four bytes at i
abbrev pub four_at : List ℕ → ℕ → ℕ
four_at s i = four (get_or s i 0) (get_or s (i + 1) 0) (get_or s (i + 2) 0) (get_or s (i + 3) 0)

-- the number of the eight bytes at i
unfoldable pub word_at : List ℕ → ℕ → ℕ
word_at s i = four_at s i * 4_294_967_296 + four_at s (i + 4)

-- the two, four and eight bytes of a number, the highest first
unfoldable pub two_bytes : ℕ → List ℕ
two_bytes n = n / 256 ∷ n % 256 ∷ []

unfoldable pub four_bytes : ℕ → List ℕ
four_bytes n = two_bytes (n / 65_536) ++ two_bytes (n % 65_536)

unfoldable pub word_bytes : ℕ → List ℕ
word_bytes w = four_bytes (w / 4_294_967_296) ++ four_bytes (w % 4_294_967_296)

-- the AS number at i
abbrev pub asn_at : List ℕ → ℕ → Asn
asn_at s i = record { 0 = four_at s i }
