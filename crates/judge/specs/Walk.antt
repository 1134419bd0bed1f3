-- Messages in message order against a snapshot's items A: which of them does not fit, and what they leave.
use Rattle.std.specs.Prelude.{ℕ, List, [], ◌∷◌, Bool, true, false, not, cond, ◌&&◌, eqb, ltb}
use Rattle.std.proofs.Math.Option.{Option, none, some}
use Rattle.order.specs.Comparison.{bytes}
use Rattle.order.specs.Map.{lookup}
use Rattle.change.specs.Difference.{Snapshot, Delta}
use Rattle.change.specs.Application.{is_equal}
use Rattle.payload.specs.Content.{Bytes}
use Rattle.message.specs.Take.{as_item}
use Rattle.heard.specs.Place.{key_at, announces_at, told_at}

-- a record is among the items
abbrev pub is_some : Option Bytes → Bool
is_some none = false
is_some (some v) = true

abbrev pub has : Snapshot Bytes Bytes → Bytes → Bool
has A k = is_some (lookup bytes k A)

-- the message at x is of the same record as the one before it; 0 stands for none before it
unfoldable pub follows : Bytes → ℕ → ℕ → Bool
follows s last x = cond (eqb last 0) false (is_equal (bytes (key_at s last) (key_at s x)))

-- whether the record of a message stands before it: as the message before left it, or else as in the snapshot
abbrev pub stands : Snapshot Bytes Bytes → Bytes → ℕ → ℕ → Bool
stands A s last x = cond (follows s last x) (announces_at s last) (has A (key_at s x))

-- an announcement of a record that stands, or a withdrawal of one that does not
abbrev pub is_fault : Snapshot Bytes Bytes → Bytes → ℕ → ℕ → Bool
is_fault A s last x = cond (announces_at s x) (stands A s last x) (not (stands A s last x))

-- the lower of an offset, if it is at fault, and the least fault so far
abbrev pub lesser : Bool → ℕ → ℕ → ℕ
lesser fault x least = cond (fault && ltb x least) x least

-- the least offset of a message at fault, of messages in message order behind `last`
unfoldable pub least_fault : Snapshot Bytes Bytes → Bytes → (last least : ℕ) → List ℕ → ℕ
least_fault A s last least [] = least
least_fault A s last least (x ∷ xs) = least_fault A s x (lesser (is_fault A s last x) x least) xs

-- what becomes of each record: its last message alone counts
unfoldable pub settle : Bytes → (last : ℕ) → List ℕ → Delta Bytes Bytes
settle s last [] = as_item (told_at s last) ∷ []
settle s last (x ∷ xs) = cond (follows s last x) (settle s x xs) (as_item (told_at s last) ∷ settle s x xs)

unfoldable pub settled : Bytes → List ℕ → Delta Bytes Bytes
settled s [] = []
settled s (x ∷ xs) = settle s x xs
