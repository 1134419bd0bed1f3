-- A lent slice once bytes are written at its start.
use Rattle.std.specs.Prelude.{◌++◌, cond, leb, length, drop}
use Rattle.payload.specs.Content.{Bytes}

-- the bytes, then what stood past them
abbrev pub written_over : Bytes → Bytes → Bytes
written_over b out = b ++ drop (length b) out

-- so where there is room for all of them, else as it was
abbrev pub written_if_room : Bytes → Bytes → Bytes
written_if_room b out = cond (leb (length b) (length out)) (written_over b out) out
