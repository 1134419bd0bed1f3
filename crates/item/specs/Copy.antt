-- What copying asks.
use Rattle.std.specs.Prelude.{ℕ, ◌+◌, ◌≤◌, length}
use Rattle.payload.specs.Content.{Bytes}

-- n bytes at `from` lie in s, and there is room for them in o at i
pub record Spans (s : Bytes) (from : ℕ) (o : Bytes) (i n : ℕ) : Type 0 where
  pub lie : from + n ≤ length s
  pub room : i + n ≤ length o
