-- A run of fields as a list of cells, and back.
use Rattle.std.specs.Prelude.{ℕ, zero, suc, ◌/◌, ◌%◌, List, [], ◌∷◌, ◌++◌, length}
use Rattle.field.specs.Head.{Front, end, cut, whole, front}

-- a field: its tag and its body
pub record Cell : Type 0 where
  pub tag : ℕ
  pub body : List ℕ

-- the field in front, and what `go` makes of the bytes behind it
abbrev pub cells_at : Front → (List ℕ → List Cell) → List Cell
cells_at end go = []
cells_at cut go = []
cells_at (whole tag b rest) go = record { tag = tag; body = b } ∷ go rest

-- the fields of s, n of them at most
unfoldable pub cells_f : ℕ → List ℕ → List Cell
cells_f zero s = []
cells_f (suc n) s = cells_at (front s) (cells_f n)

-- the fields of s, up to one that is cut short
unfoldable pub cells : List ℕ → List Cell
cells s = cells_f (length s) s

-- a field as bytes: one-byte tag, two-byte length, body
unfoldable pub field : ℕ → List ℕ → List ℕ
field tag b = tag ∷ length b / 256 ∷ length b % 256 ∷ b

-- cells as a run of fields
unfoldable pub cell_bytes : List Cell → List ℕ
cell_bytes [] = []
cell_bytes (c ∷ cs) = field c.tag c.body ++ cell_bytes cs
