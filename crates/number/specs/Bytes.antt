-- Byte strings.
use Rattle.std.specs.Prelude.{ℕ, ◌-◌, ◌<◌, List, get_or, take, drop}

-- each element is a byte
abbrev pub AllBytes : List ℕ → Type 0
AllBytes s = (i : ℕ) → get_or s i 0 < 256

-- the bytes from `from` up to `to`
abbrev pub part : List ℕ → ℕ → ℕ → List ℕ
part s from to = take (to - from) (drop from s)
