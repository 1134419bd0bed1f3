-- Reading: the message at the front of bytes.
use Rattle.std.specs.Prelude.{ℕ, ◌+◌, cond, ◌&&◌, leb, eqb, length, get_or, drop}
use Rattle.std.proofs.Math.Option.{Option, none, some}
use Rattle.number.specs.Number.{two_at, four_at}
use Rattle.number.specs.Bytes.{part}
use Rattle.payload.specs.Content.{Bytes}
use Rattle.message.specs.declared.version.Version.{Version}
use Rattle.message.specs.Version.{version_number, speaks, times_in, end_length}
use Rattle.message.specs.Message.{Message, serial_notify, serial_query, cache_response, ipv4_prefix, ipv6_prefix, end_of_data, cache_reset, router_key, error_report}

-- a message, if its length is the one that its type has
abbrev pub sized : ℕ → ℕ → Message → Option Message
sized n due m = cond (eqb n due) (some m) none

-- a router key's message of n bytes
abbrev pub router_key_in : Version → ℕ → Bytes → Option Message
router_key_in v n s = cond (speaks v 2 && leb 32 n) (some (router_key (get_or s 2 0) (part s 8 28) (part s 28 32) (part s 32 n))) none

-- an error report of n bytes, with e bytes enclosed
abbrev pub error_in : ℕ → ℕ → Bytes → Option Message
error_in n e s = sized n (16 + e + four_at s (12 + e)) (error_report (two_at s 2) (part s 12 (12 + e)) (part s (16 + e) n))

-- the message of a type and of n bytes at the front of s. Fields that the RFC calls zero are not looked at.
unfoldable pub message_in : Version → (type n : ℕ) → Bytes → Option Message
message_in v type n s =
    cond (eqb type 0) (sized n 12 (serial_notify (two_at s 2) (four_at s 8)))
    (cond (eqb type 1) (sized n 12 (serial_query (two_at s 2) (four_at s 8)))
    (cond (eqb type 3) (sized n 8 (cache_response (two_at s 2)))
    (cond (eqb type 4) (sized n 20 (ipv4_prefix (get_or s 8 0) (get_or s 9 0) (get_or s 10 0) (part s 12 16) (part s 16 20)))
    (cond (eqb type 6) (sized n 32 (ipv6_prefix (get_or s 8 0) (get_or s 9 0) (get_or s 10 0) (part s 12 28) (part s 28 32)))
    (cond (eqb type 7) (sized n (end_length v) (end_of_data (two_at s 2) (four_at s 8) (times_in v (drop 12 s))))
    (cond (eqb type 8) (sized n 8 cache_reset)
    (cond (eqb type 9) (router_key_in v n s)
    (cond (eqb type 10) (error_in n (four_at s 8) s) none))))))))

-- what stands at the front: a message, its length and the bytes behind it, or none that the version allows
pub data Front : Type 0 where
  unread : Front
  read : (m : Message) (n : ℕ) (rest : Bytes) → Front

abbrev pub front_of : Option Message → ℕ → Bytes → Front
front_of none n rest = unread
front_of (some m) n rest = read m n rest

-- 8 bytes of header, the version asked for, and as many bytes as the header says
unfoldable pub front : Version → Bytes → Front
front v s =
    cond (leb 8 (length s) && (eqb (get_or s 0 0) (version_number v) && leb (four_at s 4) (length s)))
    (front_of (message_in v (get_or s 1 0) (four_at s 4) s) (four_at s 4) (drop (four_at s 4) s))
    unread
