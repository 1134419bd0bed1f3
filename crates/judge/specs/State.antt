-- How far the walk of the messages over the snapshot has come.
use Rattle.std.specs.Prelude.{ℕ, zero, suc, ◌+◌, ◌≤◌, ◌≡◌, List, [], ◌∷◌, ◌++◌, Bool, true, cond, eqb, ltb, leb, length, drop, Ok, None, Option, Some}
use Rattle.std.proofs.lemmas.List.Edits.{sets}
use Rattle.std.specs.declared.cmp.Ordering.TheVariants.{Less}
use Rattle.order.specs.Comparison.{bytes}
use Rattle.order.specs.Map.{Item, All, lookup, Below}
use Rattle.change.specs.Difference as change
use Rattle.change.specs.Application.{apply}
use Rattle.number.specs.Bytes.{part}
use Rattle.body.specs.declared.tag.Form.TheVariants.{Snapshot}
use Rattle.payload.specs.Content.{Bytes}
use Rattle.payload.specs.Payload.{encode, items}
use Rattle.item.specs.declared.reading.Reading.TheVariants.{Announced}
use Rattle.item.specs.declared.place.Part.{Part}
use Rattle.item.specs.Front.{front_key}
use Rattle.item.specs.Reading.{Ready}
use Rattle.delta.specs.Admission.{admit_one_of}
use Rattle.message.specs.declared.version.Version.{Version}
use Rattle.heard.specs.declared.hear.Heard.{Heard}
use Rattle.heard.specs.Heard.{HeardIs}
use Rattle.heard.specs.Field.{record_field}
use Rattle.heard.specs.Place.{size_at, key_at, announces_at, Payload, Messages}
use Rattle.sorting.specs.Sorted.{sorted}
use Rattle.batch.specs.Next.{is_above}
use Rattle.batch.specs.declared.map.Map.{Map}
use Rattle.batch.specs.Map.{Mapped}
use Rattle.judge.specs.declared.check.Check.{Check}
use Rattle.judge.specs.declared.write.Write.{Write}
use Rattle.judge.specs.Walk.{is_fault, lesser, least_fault, settle, settled}

-- the offsets of messages that follow each other from `at` up to `stop`, fewer than `fuel`
unfoldable pub offsets_f : (fuel : ℕ) → Bytes → ℕ → ℕ → List ℕ
offsets_f zero s at stop = []
offsets_f (suc fuel) s at stop = cond (ltb at stop) (at ∷ offsets_f fuel s (at + size_at s at) stop) []

unfoldable pub offsets : Bytes → ℕ → List ℕ
offsets s stop = offsets_f stop s 8 stop

-- the messages of an answer s up to `stop`, in message order
abbrev pub ordered : Bytes → ℕ → List ℕ
ordered s stop = sorted s (offsets s stop)

-- a good snapshot a, and good messages of s up to `stop`
pub record Given (a s : Bytes) (stop : ℕ) : Type 0 where
  pub ready : Ready Announced a 0
  pub messages : Messages s 8 (offsets s stop) stop

-- and what was surveyed of them; a buffer
pub record Charted (a s : Bytes) (stop : ℕ) (m : Map) (buf : List ℕ) : Type 0 where
  pub given : Given a s stop
  pub mapped : Mapped s stop m
  pub len : length buf ≡ 6_000

-- no message (0), or one
pub data Last (s : Bytes) : ℕ → Type 0 where
  no : Last s 0
  one : {x : ℕ} → Payload s x → 1 ≤ x → Last s x

-- the message at x follows `last` in message order
pub record Next (s : Bytes) (last x : ℕ) : Type 0 where
  pub payload : Payload s x
  pub behind : 1 ≤ x
  pub above : is_above s last x ≡ true

-- messages in message order behind `last`
pub data Chain (s : Bytes) : ℕ → List ℕ → Type 0 where
  end : {last : ℕ} → Chain s last []
  on : {last x : ℕ} {xs : List ℕ} → Next s last x → Chain s x xs → Chain s last (x ∷ xs)

-- the last of them
abbrev pub last_of : ℕ → List ℕ → ℕ
last_of last [] = last
last_of last (x ∷ xs) = last_of x xs

-- a key above the record of `last`
pub data Beyond (s : Bytes) (last : ℕ) (k : Bytes) : Type 0 where
  first : last ≡ 0 → Beyond s last k
  above : bytes (key_at s last) k ≡ Less → Beyond s last k

-- from `from` up to the part r the snapshot a has items below the key k; r is the item with the key k, or it is empty and there is none
pub record Finds (a : Bytes) (from : ℕ) (k : Bytes) (r : Part) : Type 0 where
  pub passed : change.Snapshot Bytes Bytes
  pub low : All (λ (x : Item Bytes Bytes). bytes x.key k ≡ Less) passed
  pub bytes_are : encode Snapshot passed ≡ part a from r.from
  pub here : change.Snapshot Bytes Bytes
  pub is_here : All (λ (x : Item Bytes Bytes). x.key ≡ k) here
  pub counted : length here ≡ cond (ltb r.from r.to) 1 0
  pub split : items (drop from a) ≡ passed ++ (here ++ items (drop r.to a))
  pub rest : Below bytes k (items (drop r.to a))
  pub on : from ≤ r.from
  pub within : r.from ≤ length a
  pub ready : Ready Announced a r.to

-- each record with this front stands below what a has from `at` on
pub record IsPast (a : Bytes) (at front : ℕ) (r : Bool) : Type 0 where
  pub past : r ≡ true → (k : Bytes) → front_key k ≡ front → Below bytes k (items (drop at a))

-- ---- the search for faults

-- what the snapshot a has above the record of the last message it has from `field` on
pub record Checked (a s : Bytes) (c : Check) : Type 0 where
  pub ready : Ready Announced a c.field
  pub last : Last s c.last
  pub held : (k : Bytes) → Beyond s c.last k → lookup bytes k (items (drop c.field a)) ≡ lookup bytes k (items a)

-- one message more
pub record ChecksOne (a s : Bytes) (c : Check) (x : ℕ) (r : Check) : Type 0 where
  pub checked : Checked a s r
  pub last : r.last ≡ x
  pub least : r.least ≡ lesser (is_fault (items a) s c.last x) x c.least

-- the messages xs more
pub record Checks (a s : Bytes) (c : Check) (xs : List ℕ) (r : Check) : Type 0 where
  pub checked : Checked a s r
  pub last : r.last ≡ last_of c.last xs
  pub same : (zs : List ℕ) → least_fault (items a) s c.last c.least (xs ++ zs) ≡ least_fault (items a) s r.last r.least zs

-- ---- writing

-- what becomes of the records, of `last` and behind it
unfoldable pub settle_from : Bytes → ℕ → List ℕ → change.Delta Bytes Bytes
settle_from s last xs = cond (eqb last 0) (settled s xs) (settle s last xs)

-- what is left to write, where the messages xs are still to come
abbrev pub left_over : Bytes → Bytes → Write → List ℕ → Bytes
left_over a s w xs = encode Snapshot (apply bytes (items (drop w.field a)) (settle_from s w.last xs))

-- what the snapshot a has from `field` on stands above the record of the last message
pub record Written (a s : Bytes) (w : Write) : Type 0 where
  pub ready : Ready Announced a w.field
  pub last : Last s w.last
  pub above : 1 ≤ w.last → Below bytes (key_at s w.last) (items (drop w.field a))

-- there is room in o for all that is left, where the messages xs and some more are still to come
pub record Fitting (a s : Bytes) (w : Write) (xs : List ℕ) (o : Bytes) : Type 0 where
  pub others : List ℕ
  pub room : w.end + length (left_over a s w (xs ++ others)) ≤ length o

-- the same where no message is still to come
pub record Ending (a s : Bytes) (w : Write) (o : Bytes) : Type 0 where
  pub room : w.end + length (left_over a s w []) ≤ length o

-- what was left is what was written and what is left now
pub record Writes (a s : Bytes) (w : Write) (xs : List ℕ) (o o' : Bytes) (r : Write) : Type 0 where
  pub written : Written a s r
  pub last : r.last ≡ last_of w.last xs
  pub laid : Bytes
  pub same : (zs : List ℕ) → left_over a s w (xs ++ zs) ≡ laid ++ left_over a s r zs
  pub out : o' ≡ sets o w.end laid
  pub end : r.end ≡ w.end + length laid

-- the field that the last message leaves
unfoldable pub settled_field : Bytes → ℕ → Bytes
settled_field s last = cond (eqb last 0) [] (cond (announces_at s last) (record_field (key_at s last)) [])

-- and there is room for it at `end`
pub record Settles (s : Bytes) (last : ℕ) (o : Bytes) (end : ℕ) : Type 0 where
  pub told : Last s last
  pub room : end + length (settled_field s last) ≤ length o

-- what all messages leave of the snapshot
unfoldable pub left_all : Bytes → Bytes → ℕ → Bytes
left_all a s stop = encode Snapshot (apply bytes (items a) (settled s (ordered s stop)))

pub record RoomFor (a s : Bytes) (stop : ℕ) (o : Bytes) : Type 0 where
  pub room : length (left_all a s stop) ≤ length o

-- ---- the answer

-- a length, if it is within the room
abbrev pub length_of : ℕ → ℕ → Option ℕ
length_of n room = cond (leb n room) (Some n) None

-- the length of what all messages leave, by the bytes that they announce and withdraw; and a buffer
pub record Balanced (a s : Bytes) (stop more less : ℕ) (m : Map) (buf : List ℕ) : Type 0 where
  pub charted : Charted a s stop m buf
  pub is : length (left_all a s stop) + less ≡ length a + more

-- an answer was heard and surveyed, and our snapshot is admitted
pub record Heeds (v : Version) (a m : Bytes) (h : Heard) (c : Map) (buf : List ℕ) : Type 0 where
  pub fine : admit_one_of Snapshot a ≡ Ok tt
  pub heard : HeardIs v m h
  pub mapped : Mapped m h.over c
  pub len : length buf ≡ 6_000
