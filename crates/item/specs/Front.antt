-- The front of a key: its first eight bytes as one number. Where two fronts differ, the keys are ordered as they are.
use Rattle.std.specs.Prelude.{ℕ, zero, suc, ◌+◌, ◌*◌, ◌/◌, cond, eqb, get_or, drop}
use Rattle.payload.specs.Content.{Bytes}

-- the next m elements behind a number, 0 for each that is not there
unfoldable pub packs : ℕ → ℕ → Bytes → ℕ
packs a zero l = a
packs a (suc m) l = packs (a * 256 + get_or l 0 0) m (drop 1 l)

abbrev pub front_key : Bytes → ℕ
front_key k = packs 0 8 k

-- above each front
abbrev pub top : ℕ
top = 18_446_744_073_709_551_615

-- the front of a field's key by its kind and the eight bytes behind its head: of an ASPA (kind 3) the customer alone
unfoldable pub front_in : ℕ → ℕ → ℕ
front_in kind w = kind * 72_057_594_037_927_936 + cond (eqb kind 3) (w / 4_294_967_296 * 16_777_216) (w / 256)
