-- The comparison of serials: RFC 1982, section 3.2. Serials s1 and s2 have the numbers i1 and i2.
use Rattle.std.specs.Prelude.{ℕ, ◌-◌, ◌^◌, Bool, true, false, ◌&&◌, ◌||◌, ◌==◌, nat_lt, None, Option, Some}
use Rattle.serial.specs.declared.Serial.{Serial}
use Rattle.std.specs.declared.cmp.Ordering.TheVariants as ordering
use Rattle.std.specs.declared.cmp.Ordering.{Ordering}

-- SERIAL_BITS
abbrev pub serial_bits : ℕ
serial_bits = 32

-- 2^(SERIAL_BITS - 1)
abbrev pub half : ℕ
half = 2 ^ (serial_bits - 1)

-- s1 is equal to s2: i1 is equal to i2
abbrev pub equal : ℕ → ℕ → Bool
equal i1 i2 = i1 == i2

-- s1 is less than s2: (i1 < i2 and i2 - i1 < 2^(SERIAL_BITS - 1)) or (i1 > i2 and i1 - i2 > 2^(SERIAL_BITS - 1))
abbrev pub less : ℕ → ℕ → Bool
less i1 i2 = (nat_lt i1 i2 && nat_lt (i2 - i1) half) || (nat_lt i2 i1 && nat_lt half (i1 - i2))

-- s1 is greater than s2: (i1 < i2 and i2 - i1 > 2^(SERIAL_BITS - 1)) or (i1 > i2 and i1 - i2 < 2^(SERIAL_BITS - 1))
abbrev pub greater : ℕ → ℕ → Bool
greater i1 i2 = (nat_lt i1 i2 && nat_lt half (i2 - i1)) || (nat_lt i2 i1 && nat_lt (i1 - i2) half)

-- the first of equal, less and greater that holds; where none does, the two are unordered
unfoldable pub first_true : (equal less greater : Bool) → Option Ordering
first_true true l g = Some ordering.Equal
first_true false true g = Some ordering.Less
first_true false false true = Some ordering.Greater
first_true false false false = None

-- how s1 stands to s2
unfoldable pub standing : Serial → Serial → Option Ordering
standing s1 s2 = first_true (equal s1.0 s2.0) (less s1.0 s2.0) (greater s1.0 s2.0)
