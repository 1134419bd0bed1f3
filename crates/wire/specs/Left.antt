-- How far the writing of items has come: what is left, and the origins of a snapshot.
use Rattle.std.specs.Prelude.{ℕ, ◌+◌, ◌*◌, ◌≤◌, ◌≡◌, ◌∷◌, length, get_or, drop, ◌⊎◌}
use Rattle.std.proofs.lemmas.List.Edits.{sets}
use Rattle.order.specs.Map.{All}
use Rattle.change.specs.Difference as change
use Rattle.body.specs.declared.tag.Form.TheVariants.{Snapshot, Delta}
use Rattle.field.specs.declared.key.Key.{Key}
use Rattle.field.specs.Places.{key_in}
use Rattle.payload.specs.Content.{Bytes}
use Rattle.payload.specs.Limit.{limit}
use Rattle.payload.specs.Valid.{Valid}
use Rattle.item.specs.declared.place.Act.{Act}
use Rattle.item.specs.declared.place.Act.TheVariants.{Announce}
use Rattle.item.specs.declared.reading.Reading.TheVariants.{Announced}
use Rattle.item.specs.Place.{item_in, KeyIn}
use Rattle.item.specs.Reading.{read_as, Ready}
use Rattle.message.specs.declared.version.Version.{Version}
use Rattle.message.specs.Message.{pdu}
use Rattle.message.specs.Record.{message_of}
use Rattle.wire.specs.declared.tally.Tally.{Tally}
use Rattle.wire.specs.declared.origins.RunEnd.{RunEnd}
use Rattle.wire.specs.Tally.{saying, plus_all}

-- what was written with the messages of d behind it is what stood there before with those of d₀
pub record Left (v : Version) (t : Tally) (o : Bytes) (d : change.Delta Bytes Bytes) (t₀ : Tally) (o₀ : Bytes) (d₀ : change.Delta Bytes Bytes) : Type 0 where
  pub tally : plus_all v t d ≡ plus_all v t₀ d₀
  pub same : length o ≡ length o₀
  pub laid : t₀.len + length (saying v d₀) ≤ length o₀ → sets o t.len (saying v d) ≡ sets o₀ t₀.len (saying v d₀)

-- the good snapshot s was passed up to `at`, and this was counted
pub record Listed (s : Bytes) (at : ℕ) (t : Tally) : Type 0 where
  pub ready : Ready Announced s at
  pub small : length s ≤ limit Snapshot
  pub len : t.len ≤ 8 + 1_056 * at
  pub announced : t.announced ≤ at
  pub withdrawn : t.withdrawn ≤ at
  pub keys : t.keys ≤ at
  pub aspas : t.aspas ≤ at
  pub valid : All (Valid Delta) (read_as Announced (drop at s))

-- what was counted, with another length and another number of announcements
abbrev pub counted : Tally → ℕ → ℕ → Tally
counted t len announced = record { len = len; announced = announced; withdrawn = t.withdrawn; keys = t.keys; aspas = t.aspas }

-- the key of the origin at `at`, behind the three bytes of its head
abbrev pub origin_key : ℕ → Key
origin_key at = record { kind = 1; from = at + 3; to = at + 26 }

-- it has no value
abbrev pub origin_act : ℕ → Act
origin_act at = Announce (record { from = at + 26; to = at + 26 })

-- the message that announces it
abbrev pub origin_pdu : Version → Bytes → ℕ → Bytes
origin_pdu v s at = pdu v (message_of 1 (key_in s (origin_key at)))

-- the number of a family: 4 or 6
pub record IsFamily (number : ℕ) : Type 0 where
  pub is : (number ≡ 4) ⊎ (number ≡ 6)

-- the snapshot s has an origin of the family of this number at `at`, and goes on 26 bytes behind
pub record OriginAt (s : Bytes) (at number : ℕ) : Type 0 where
  pub family : get_or s (at + 3) 0 ≡ number
  pub key : KeyIn s (origin_key at)
  pub is : read_as Announced (drop at s) ≡ item_in s s (origin_key at) (origin_act at) ∷ read_as Announced (drop (at + 26) s)
  pub next : Ready Announced s (at + 26)

-- the snapshot s was passed further, from `from` on, and the messages of what was passed were written
pub record Passed (v : Version) (s : Bytes) (from : ℕ) (t : Tally) (o o' : Bytes) (r : RunEnd) : Type 0 where
  pub on : from ≤ r.at
  pub listed : Listed s r.at r.tally
  pub left : Left v r.tally o' (read_as Announced (drop r.at s)) t o (read_as Announced (drop from s))
