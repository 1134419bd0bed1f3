-- The body of a router key: key identifier 20, AS number 4, key info 0 to 1,024 bytes.
use Rattle.std.specs.Prelude.{ℕ, ◌-◌, List, Bool, ◌&&◌, length, leb}

-- 24 bytes, then the key info
unfoldable pub good_router_key : List ℕ → Bool
good_router_key b = leb 24 (length b) && leb (length b - 24) 1_024
