-- The messages (RFC 8210, section 5) and their bytes, each with its fields in the RFC's order.
use Rattle.std.specs.Prelude.{ℕ, ◌+◌, List, [], ◌∷◌, ◌++◌, length}
use Rattle.serial.specs.declared.timing.Timing.{Timing}
use Rattle.number.specs.Number.{two_bytes, four_bytes}
use Rattle.payload.specs.Content.{Bytes}
use Rattle.message.specs.declared.version.Version.{Version}
use Rattle.message.specs.Version.{version_number, times_bytes, end_length}

-- flags are 1 to announce and 0 to withdraw; addresses, AS numbers, key identifiers and key infos are bytes
pub data Message : Type 0 where
  serial_notify : (session serial : ℕ) → Message
  serial_query : (session serial : ℕ) → Message
  cache_response : (session : ℕ) → Message
  ipv4_prefix : (flags prefix_length maximum_length : ℕ) (address asn : Bytes) → Message
  ipv6_prefix : (flags prefix_length maximum_length : ℕ) (address asn : Bytes) → Message
  end_of_data : (session serial : ℕ) (times : Timing) → Message
  cache_reset : Message
  router_key : (flags : ℕ) (keyIdentifier asn keyInfo : Bytes) → Message
  error_report : (code : ℕ) (enclosed text : Bytes) → Message

-- version, type, two bytes by the type, and the length of the whole message
abbrev pub header : Version → (type : ℕ) → (two : Bytes) → (length : ℕ) → Bytes
header v type two length = version_number v ∷ type ∷ (two ++ four_bytes length)

-- a message as bytes
unfoldable pub pdu : Version → Message → Bytes
pdu v (serial_notify session serial) = header v 0 (two_bytes session) 12 ++ four_bytes serial
pdu v (serial_query session serial) = header v 1 (two_bytes session) 12 ++ four_bytes serial
pdu v (cache_response session) = header v 3 (two_bytes session) 8
pdu v (ipv4_prefix flags p m address asn) = header v 4 (0 ∷ 0 ∷ []) 20 ++ (flags ∷ p ∷ m ∷ 0 ∷ (address ++ asn))
pdu v (ipv6_prefix flags p m address asn) = header v 6 (0 ∷ 0 ∷ []) 32 ++ (flags ∷ p ∷ m ∷ 0 ∷ (address ++ asn))
pdu v (end_of_data session serial times) = header v 7 (two_bytes session) (end_length v) ++ (four_bytes serial ++ times_bytes v times)
pdu v cache_reset = header v 8 (0 ∷ 0 ∷ []) 8
pdu v (router_key flags identifier asn info) = header v 9 (flags ∷ 0 ∷ []) (32 + length info) ++ (identifier ++ (asn ++ info))
pdu v (error_report code enclosed text) =
    header v 10 (two_bytes code) (16 + length enclosed + length text)
    ++ (four_bytes (length enclosed) ++ (enclosed ++ (four_bytes (length text) ++ text)))

-- messages, one behind the other
unfoldable pub pdus : Version → List Message → Bytes
pdus v [] = []
pdus v (m ∷ ms) = pdu v m ++ pdus v ms
