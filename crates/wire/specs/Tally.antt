-- What is counted while messages are written.
use Rattle.std.specs.Prelude.{ℕ, ◌+◌, ◌-◌, ◌^◌, ◌≤◌, ◌<◌, ◌≡◌, [], ◌∷◌, cond, eqb, length}
use Rattle.std.proofs.lemmas.List.Edits.{sets}
use Rattle.order.specs.Map.{Item}
use Rattle.change.specs.Change.{Change}
use Rattle.change.specs.Difference as change
use Rattle.body.specs.declared.tag.Form.TheVariants.{Delta}
use Rattle.field.specs.declared.key.Key.{Key}
use Rattle.payload.specs.Content.{Bytes}
use Rattle.payload.specs.Valid.{Valid}
use Rattle.payload.specs.Count.{announces, withdraws, sum_of}
use Rattle.item.specs.declared.place.Act.{Act}
use Rattle.item.specs.Place.{item_in, KeyIn}
use Rattle.message.specs.declared.version.Version.{Version}
use Rattle.message.specs.Message.{pdus}
use Rattle.message.specs.Say.{spoken, skipped, said}
use Rattle.wire.specs.declared.tally.Tally.{Tally}

-- the messages of a delta, one behind the other
unfoldable pub saying : Version → change.Delta Bytes Bytes → Bytes
saying v D = pdus v (said v D)

-- what was counted, with the messages of a delta
abbrev pub plus_all : Version → Tally → change.Delta Bytes Bytes → Tally
plus_all v t D = record {
  len = t.len + length (saying v D);
  announced = t.announced + sum_of announces (spoken v D);
  withdrawn = t.withdrawn + sum_of withdraws (spoken v D);
  keys = t.keys + skipped v 2 D;
  aspas = t.aspas + skipped v 3 D;
}

-- the Cache Response alone
abbrev pub start : Tally
start = record { len = 8; announced = 0; withdrawn = 0; keys = 0; aspas = 0 }

-- one message more, by its flags and its size
abbrev pub plus_place : Tally → ℕ → ℕ → Tally
plus_place t flags size = record {
  len = t.len + size;
  announced = t.announced + flags;
  withdrawn = t.withdrawn + (1 - flags);
  keys = t.keys;
  aspas = t.aspas;
}

-- one item more that there is no message for, by its kind
abbrev pub skip_place : Tally → ℕ → Tally
skip_place t kind =
    cond (eqb kind 2)
    (record { len = t.len; announced = t.announced; withdrawn = t.withdrawn; keys = t.keys + 1; aspas = t.aspas })
    (record { len = t.len; announced = t.announced; withdrawn = t.withdrawn; keys = t.keys; aspas = t.aspas + 1 })

-- one more item can be counted
pub record Countable (t : Tally) : Type 0 where
  pub len : t.len < 2 ^ 62
  pub announced : t.announced < 2 ^ 62
  pub withdrawn : t.withdrawn < 2 ^ 62
  pub keys : t.keys < 2 ^ 62
  pub aspas : t.aspas < 2 ^ 62

-- a valid item of s
pub record Says (s : Bytes) (key : Key) (act : Act) : Type 0 where
  pub key_in_lem : KeyIn s key
  pub valid : Valid Delta (item_in s s key act)

-- no more than one item was counted
pub record Steps (t r : Tally) : Type 0 where
  pub len : r.len ≤ t.len + 1_056
  pub announced : r.announced ≤ t.announced + 1
  pub withdrawn : r.withdrawn ≤ t.withdrawn + 1
  pub keys : r.keys ≤ t.keys + 1
  pub aspas : r.aspas ≤ t.aspas + 1

-- the message of an item, if there is one and room for it, and what is counted then
pub record ItemIs (v : Version) (x : Item Bytes (Change Bytes)) (t : Tally) (o o' : Bytes) (r : Tally) : Type 0 where
  pub tally : r ≡ plus_all v t (x ∷ [])
  pub steps : Steps t r
  pub same : length o' ≡ length o
  pub laid : t.len + length (saying v (x ∷ [])) ≤ length o → o' ≡ sets o t.len (saying v (x ∷ []))
