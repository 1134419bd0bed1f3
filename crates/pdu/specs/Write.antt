-- What writing one message asks, and what it leaves.
use Rattle.std.specs.Prelude.{ℕ, ◌+◌, ◌-◌, ◌≤◌, ◌≡◌, [], ◌∷◌, cond, eqb, length, get_or, take, drop}
use Rattle.std.proofs.lemmas.List.Edits.{sets}
use Rattle.serial.specs.declared.Session.{Session}
use Rattle.number.specs.Number.{two_bytes}
use Rattle.body.specs.Origin.{family, address, prefix_length, maximum_length}
use Rattle.field.specs.declared.key.Key.{Key}
use Rattle.payload.specs.Content.{Bytes}
use Rattle.item.specs.declared.place.Part.{Part}
use Rattle.item.specs.declared.place.Act.{Act}
use Rattle.item.specs.declared.place.Act.TheVariants.{Announce, Withdraw, Update}
use Rattle.item.specs.Place.{KeyIn}
use Rattle.message.specs.declared.version.Version.{Version}
use Rattle.message.specs.Message.{Message, ipv4_prefix, ipv6_prefix, header}

-- the header of a message that names a session
abbrev pub session_head : Version → ℕ → Session → ℕ → Bytes
session_head v type session length = header v type (two_bytes session.0) length

-- an origin's message by its family
abbrev pub ipv4_of : ℕ → Bytes → Message
ipv4_of flags b = ipv4_prefix flags (prefix_length b) (maximum_length b) (take 4 (address b)) (drop 19 b)

abbrev pub ipv6_of : ℕ → Bytes → Message
ipv6_of flags b = ipv6_prefix flags (prefix_length b) (maximum_length b) (address b) (drop 19 b)

-- what stands in front of an address
abbrev pub lengths_of : ℕ → Bytes → Bytes
lengths_of flags b = flags ∷ prefix_length b ∷ maximum_length b ∷ 0 ∷ []

-- the flags of a change by its places
abbrev pub flags_place : Act → ℕ
flags_place (Announce n) = 1
flags_place (Withdraw p) = 0
flags_place (Update p n) = 1

-- how many bytes the message of a record has
abbrev pub size_of : Bytes → ℕ
size_of k = cond (eqb (get_or k 0 0) 1) (cond (eqb (family (drop 1 k)) 4) 20 32) (8 + length (drop 1 k))

-- the body of an origin lies at `from`
pub record Lies23 (s : Bytes) (from : ℕ) : Type 0 where
  pub within : from + 23 ≤ length s

-- the body of a router key lies at p
pub record Body (s : Bytes) (p : Part) : Type 0 where
  pub long : p.from + 24 ≤ p.to
  pub short : p.to - p.from ≤ 1_048
  pub within : p.to ≤ length s

-- a record that there is a message for
pub record Sayable (s : Bytes) (k : Key) : Type 0 where
  pub inside : KeyIn s k
  pub origin : k.kind ≡ 1 → k.to ≡ k.from + 23
  pub other : (k.kind ≡ 1 → ⊥) → k.from + 24 ≤ k.to

-- these bytes at i, if there is room for all of them; their number r in any case
pub record PutIs (m o : Bytes) (i : ℕ) (o' : Bytes) (r : ℕ) : Type 0 where
  pub size : r ≡ length m
  pub small : r ≤ 1_056
  pub same : length o' ≡ length o
  pub laid : i + length m ≤ length o → o' ≡ sets o i m
