-- How far the hearing of an answer has come, and one message more.
use Rattle.std.specs.Prelude.{ℕ, ◌+◌, ◌-◌, ◌*◌, ◌^◌, ◌<◌, ◌≤◌, ◌≡◌, List, ◌++◌, map, Bool, true, false, cond, ◌&&◌, leb, eqb, length, get_or, drop}
use Rattle.std.specs.declared.option.Option.{Option}
use Rattle.std.specs.declared.option.Option.TheVariants.{None, Some}
use Rattle.std.specs.declared.result.Result.{Result}
use Rattle.number.specs.Number.{four_at}
use Rattle.payload.specs.Content.{Bytes}
use Rattle.message.specs.declared.version.Version.{Version}
use Rattle.message.specs.Version.{version_number, speaks, times_in, end_length}
use Rattle.message.specs.Record.{good_record}
use Rattle.message.specs.Read.{front}
use Rattle.message.specs.Hear as message
use Rattle.heard.specs.Place.{type_at, size_at, flags_at, key_at, announces_at, told_at, Payload, Messages}
use Rattle.heard.specs.Field.{record_field}
use Rattle.heard.specs.Heard.{stop_is, count_flags, sum_fields}
use Rattle.heard.specs.declared.hear.End.{End}
use Rattle.heard.specs.declared.hear.Fault.{Fault}
use Rattle.heard.specs.declared.sums.Sums.{Sums}

-- a header of the version stands at the front of t, and as many bytes as it says
unfoldable pub is_whole : Version → Bytes → Bool
is_whole v t = leb 8 (length t) && (eqb (get_or t 0 0) (version_number v) && leb (four_at t 4) (length t))

-- the bytes of a message's header and as many as it says lie in s
pub record Framed (s : Bytes) (at size : ℕ) : Type 0 where
  pub head : at + 8 ≤ length s
  pub is : size ≡ size_at s at
  pub within : at + size ≤ length s

-- and it is an End of Data by its type
pub record Ending (v : Version) (s : Bytes) (at size : ℕ) : Type 0 where
  pub framed : Framed s at size
  pub whole : is_whole v (drop at s) ≡ true
  pub type : type_at s at ≡ 7

-- the times of an End of Data lie in s at `at`
pub record Timed (v : Version) (s : Bytes) (at : ℕ) : Type 0 where
  pub within : at + (end_length v - 12) ≤ length s

-- a whole End of Data lies in s at `at`
pub record Closing (v : Version) (s : Bytes) (at : ℕ) : Type 0 where
  pub within : at + end_length v ≤ length s

-- and what it says, in an answer of this session
abbrev pub ended_at : Version → ℕ → Bytes → ℕ → End
ended_at v session s at = record { session = record { 0 = session }; serial = record { 0 = four_at s (at + 8) }; times = times_in v (drop (at + 12) s) }

-- the length is one that a payload message of the version has
unfoldable pub sized_at : Version → Bytes → ℕ → Bool
sized_at v s at =
    cond (eqb (type_at s at) 4) (eqb (size_at s at) 20)
    (cond (eqb (type_at s at) 6) (eqb (size_at s at) 32)
    (cond (eqb (type_at s at) 9) (speaks v 2 && leb 32 (size_at s at)) false))

-- the message is a good payload message
unfoldable pub payload_at : Version → Bytes → ℕ → Bool
payload_at v s at = sized_at v s at && (leb (flags_at s at) 1 && good_record (key_at s at))

-- an answer opens with a Cache Response
unfoldable pub opens : Version → Bytes → Bool
opens v s = is_whole v s && (eqb (get_or s 1 0) 3 && eqb (four_at s 4) 8)

-- the answer from `at` on, if it stops there or a good payload message stands there; `go` hears what is behind the message
abbrev pub stop_means : Bytes → ℕ → Option (Result End Fault) → (ℕ → Bytes → message.Heard) → message.Heard
stop_means s at None go = message.more (told_at s at) (go (at + size_at s at) (drop (at + size_at s at) s))
stop_means s at (Some stop) go = message.stopped (stop_is stop)

pub record StopIs (v : Version) (session : ℕ) (s : Bytes) (at : ℕ) (r : Option (Result End Fault)) : Type 0 where
  pub same : (go : ℕ → Bytes → message.Heard) → message.hear_front session at (front v (drop at s)) go ≡ stop_means s at r go
  pub good : r ≡ None → Payload s at

-- the same of a message that ends the answer
pub record EndIs (v : Version) (session : ℕ) (s : Bytes) (at : ℕ) (r : Result End Fault) : Type 0 where
  pub same : (go : ℕ → Bytes → message.Heard) → message.hear_front session at (front v (drop at s)) go ≡ message.stopped (stop_is r)

-- the sums with one message more
abbrev pub plus_at : Bytes → ℕ → Sums → Sums
plus_at s at c =
    cond (announces_at s at)
    (record { announced = c.announced + 1; withdrawn = c.withdrawn; more = c.more + length (record_field (key_at s at)); less = c.less })
    (record { announced = c.announced; withdrawn = c.withdrawn + 1; more = c.more; less = c.less + length (record_field (key_at s at)) })

-- the sums up to `at` are small enough for one message more
pub record Small (s : Bytes) (at : ℕ) (c : Sums) : Type 0 where
  pub short : length s * 1 < 2 ^ 63
  pub announced : c.announced ≤ at
  pub withdrawn : c.withdrawn ≤ at
  pub more : c.more ≤ 2 * at
  pub less : c.less ≤ 2 * at

-- they are those of the messages xs
pub record Summed (s : Bytes) (xs : List ℕ) (c : Sums) : Type 0 where
  pub announced : c.announced ≡ count_flags s true xs
  pub withdrawn : c.withdrawn ≡ count_flags s false xs
  pub more : c.more ≡ sum_fields s true xs
  pub less : c.less ≡ sum_fields s false xs

-- messages heard before
abbrev pub behind : List message.Told → message.Heard → message.Heard
behind ts h = record { told = ts ++ h.told; stop = h.stop }

-- the answer is heard up to `at`: the rest decides
pub record Hearing (v : Version) (session : ℕ) (s : Bytes) (at : ℕ) (c : Sums) : Type 0 where
  pub narrow : session < 65_536
  pub xs : List ℕ
  pub messages : Messages s 8 xs at
  pub fuel : ℕ
  pub enough : length s - at < fuel
  pub within : at ≤ length s
  pub rest : behind (map (told_at s) xs) (message.hear_f fuel v session at (drop at s)) ≡ message.hear v s
  pub summed : Summed s xs c
  pub small : Small s at c
