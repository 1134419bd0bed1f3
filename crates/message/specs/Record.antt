-- The record that a message speaks of: the key of an origin or of a router key.
use Rattle.std.specs.Prelude.{ℕ, [], ◌∷◌, ◌++◌, Bool, cond, eqb, get_or, take, drop, replicate}
use Rattle.change.specs.Change.{Change, announce, withdraw, update}
use Rattle.serial.specs.declared.timing.Timing.{Timing}
use Rattle.body.specs.declared.tag.Form.TheVariants.{Snapshot}
use Rattle.body.specs.Tag.{good_body}
use Rattle.body.specs.Origin.{family, address, prefix_length, maximum_length}
use Rattle.payload.specs.Content.{Bytes}
use Rattle.message.specs.Message.{Message, serial_notify, serial_query, cache_response, ipv4_prefix, ipv6_prefix, end_of_data, cache_reset, router_key, error_report}

-- an origin's message; of an IPv4 address the first 4 bytes are sent
abbrev pub prefix_of : ℕ → Bytes → Message
prefix_of flags b =
    cond (eqb (family b) 4)
    (ipv4_prefix flags (prefix_length b) (maximum_length b) (take 4 (address b)) (drop 19 b))
    (ipv6_prefix flags (prefix_length b) (maximum_length b) (address b) (drop 19 b))

-- a router key's
abbrev pub router_key_of : ℕ → Bytes → Message
router_key_of flags b = router_key flags (take 20 b) (take 4 (drop 20 b)) (drop 24 b)

-- the message of a record: its kind, then its body
unfoldable pub message_of : ℕ → Bytes → Message
message_of flags k = cond (eqb (get_or k 0 0) 1) (prefix_of flags (drop 1 k)) (router_key_of flags (drop 1 k))

-- the flags of a change: an update announces (there is none of origins and router keys)
abbrev pub flags_of : Change Bytes → ℕ
flags_of (announce n) = 1
flags_of (withdraw p) = 0
flags_of (update p n) = 1

-- what a message is to one who hears an answer: its opening, a change of one record, its end, or nothing that may stand there
pub data Part : Type 0 where
  opening : (session : ℕ) → Part
  payload : (key : Bytes) (change : Change Bytes) → Part
  ending : (session serial : ℕ) (times : Timing) → Part
  misplaced : Part

-- a record whose body keeps document 01's rules
abbrev pub good_record : Bytes → Bool
good_record k = good_body Snapshot (get_or k 0 0) (drop 1 k)

-- flags are 1 to announce, 0 to withdraw, and nothing else
abbrev pub flagged : ℕ → Bytes → Part
flagged flags k = cond (eqb flags 1) (payload k (announce [])) (cond (eqb flags 0) (payload k (withdraw [])) misplaced)

abbrev pub payload_of : ℕ → Bytes → Part
payload_of flags k = cond (good_record k) (flagged flags k) misplaced

-- an IPv4 address is followed by 12 zeros in its record
unfoldable pub part_of : Message → Part
part_of (serial_notify session serial) = misplaced
part_of (serial_query session serial) = misplaced
part_of (cache_response session) = opening session
part_of (ipv4_prefix flags p m address asn) = payload_of flags (1 ∷ 4 ∷ (address ++ (replicate 12 0 ++ (p ∷ m ∷ asn))))
part_of (ipv6_prefix flags p m address asn) = payload_of flags (1 ∷ 6 ∷ (address ++ (p ∷ m ∷ asn)))
part_of (end_of_data session serial times) = ending session serial times
part_of cache_reset = misplaced
part_of (router_key flags identifier asn info) = payload_of flags (2 ∷ (identifier ++ (asn ++ info)))
part_of (error_report code enclosed text) = misplaced
