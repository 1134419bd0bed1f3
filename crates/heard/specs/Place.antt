-- The payload messages of s, by the offsets where they start.
use Rattle.std.specs.Prelude.{ℕ, ◌+◌, ◌≤◌, ◌≡◌, List, [], ◌∷◌, ◌++◌, Bool, true, false, cond, eqb, ltb, length, get_or, replicate}
use Rattle.std.specs.declared.cmp.Ordering.{Ordering}
use Rattle.std.specs.declared.cmp.Ordering.TheVariants.{Less, Equal, Greater}
use Rattle.order.specs.Comparison.{bytes}
use Rattle.change.specs.Change.{announce, withdraw}
use Rattle.number.specs.Number.{four_at}
use Rattle.number.specs.Bytes.{part}
use Rattle.payload.specs.Content.{Bytes}
use Rattle.message.specs.Record.{good_record}
use Rattle.message.specs.Hear.{Told}

abbrev pub type_at : Bytes → ℕ → ℕ
type_at s at = get_or s (at + 1) 0

abbrev pub size_at : Bytes → ℕ → ℕ
size_at s at = four_at s (at + 4)

-- a router key (type 9) has its flags in the header
abbrev pub flags_at : Bytes → ℕ → ℕ
flags_at s at = cond (eqb (type_at s at) 9) (get_or s (at + 2) 0) (get_or s (at + 8) 0)

-- the record: of an IPv4 prefix (type 4), of an IPv6 prefix (type 6), of a router key
unfoldable pub key_at : Bytes → ℕ → Bytes
key_at s at =
    cond (eqb (type_at s at) 4)
    (1 ∷ 4 ∷ (part s (at + 12) (at + 16) ++ (replicate 12 0 ++ (get_or s (at + 9) 0 ∷ get_or s (at + 10) 0 ∷ part s (at + 16) (at + 20)))))
    (cond (eqb (type_at s at) 6)
    (1 ∷ 6 ∷ (part s (at + 12) (at + 28) ++ (get_or s (at + 9) 0 ∷ get_or s (at + 10) 0 ∷ part s (at + 28) (at + 32))))
    (2 ∷ part s (at + 8) (at + size_at s at)))

abbrev pub announces_at : Bytes → ℕ → Bool
announces_at s at = eqb (flags_at s at) 1

abbrev pub told_at : Bytes → ℕ → Told
told_at s at = record { at = at; key = key_at s at; change = cond (announces_at s at) (announce []) (withdraw []) }

-- the three types and their lengths
pub data Sized (s : Bytes) (at : ℕ) : Type 0 where
  v4 : type_at s at ≡ 4 → size_at s at ≡ 20 → Sized s at
  v6 : type_at s at ≡ 6 → size_at s at ≡ 32 → Sized s at
  key : type_at s at ≡ 9 → 32 ≤ size_at s at → size_at s at ≤ 1_056 → Sized s at

-- a good payload message stands at `at`
pub record Payload (s : Bytes) (at : ℕ) : Type 0 where
  pub sized : Sized s at
  pub within : at + size_at s at ≤ length s
  pub flags : flags_at s at ≤ 1
  pub good : good_record (key_at s at) ≡ true

-- from `at` up to `stop` stand good payload messages, at these offsets
pub data Messages (s : Bytes) : ℕ → List ℕ → ℕ → Type 0 where
  done : {stop : ℕ} → Messages s stop [] stop
  more : {at stop : ℕ} {xs : List ℕ} → Payload s at → Messages s (at + size_at s at) xs stop → Messages s at (at ∷ xs) stop

-- message order: by the record, and for one record by the offset
abbrev pub before : Ordering → Bool → Bool
before Less earlier = true
before Equal earlier = earlier
before Greater earlier = false

unfoldable pub precedes : Bytes → ℕ → ℕ → Bool
precedes s x y = before (bytes (key_at s x) (key_at s y)) (ltb x y)
