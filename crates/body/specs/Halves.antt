-- An address by its halves, each a number of eight bytes.
use Rattle.std.specs.Prelude.{ℕ, ◌-◌, ◌%◌, ◌^◌, Bool, ◌&&◌, eqb}

-- the bits past a prefix of p bits are zero
unfoldable pub clean_halves : ℕ → ℕ → ℕ → Bool
clean_halves p high low = eqb (high % 2 ^ (64 - p)) 0 && eqb (low % 2 ^ (64 - (p - 64))) 0
