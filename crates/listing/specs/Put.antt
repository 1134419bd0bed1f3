-- What it is to put a text into a slice.
use Rattle.std.specs.Prelude.{ℕ, ◌+◌, ◌≡◌, length}
use Rattle.std.proofs.lemmas.List.Edits.{sets}
use Rattle.payload.specs.Content.{Bytes}

-- the text is laid into o at i, which becomes o', and ends at r; what has no room is counted and not written
pub record Puts (o : Bytes) (i : ℕ) (text o' : Bytes) (r : ℕ) : Type 0 where
  pub laid : o' ≡ sets o i text
  pub end : r ≡ i + length text
