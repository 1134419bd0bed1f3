-- A run of fields read as changes.
use Rattle.std.specs.Prelude.{ℕ, ◌+◌, ◌*◌, ◌≤◌, ◌<◌, ◌≡◌, [], ◌∷◌, length, drop, None, Option, Some}
use Rattle.order.specs.Comparison.{bytes}
use Rattle.order.specs.Map.{Item}
use Rattle.change.specs.Change.{Change, announce, withdraw}
use Rattle.change.specs.Difference.{Delta, diff}
use Rattle.number.specs.Number.{two_at}
use Rattle.body.specs.declared.tag.Form.{Form}
use Rattle.body.specs.declared.tag.Form.TheVariants as form
use Rattle.body.specs.declared.tag.Action.{Action}
use Rattle.body.specs.declared.tag.Action.TheVariants as action
use Rattle.field.specs.Cells.{Cell, cells}
use Rattle.field.specs.Places.{GoodAt}
use Rattle.payload.specs.Content.{Bytes, entry_of}
use Rattle.payload.specs.Payload.{items, changes}
use Rattle.item.specs.declared.place.Part.{Part}
use Rattle.item.specs.declared.place.Act.{Act}
use Rattle.item.specs.declared.place.Act.TheVariants.{Announce, Withdraw, Update}
use Rattle.item.specs.declared.place.Entry.{Entry}
use Rattle.item.specs.declared.reading.Reading.{Reading}
use Rattle.item.specs.declared.reading.Reading.TheVariants.{Withdrawn, Announced, Changes}
use Rattle.item.specs.Place.{item_in, ActFits, KeyIn}

abbrev pub form_of : Reading → Form
form_of Withdrawn = form.Snapshot
form_of Announced = form.Snapshot
form_of Changes = form.Delta

-- a snapshot's items all withdrawn, all announced; a delta's changes
abbrev pub read_as : Reading → Bytes → Delta Bytes Bytes
read_as Withdrawn s = diff bytes bytes (items s) []
read_as Announced s = diff bytes bytes [] (items s)
read_as Changes s = changes s

-- the change of a field whose values lie at v
abbrev pub held_place : Reading → Part → Act
held_place Withdrawn v = Withdraw v
held_place Announced v = Announce v
held_place Changes v = Announce v

abbrev pub middle : Bytes → Part → ℕ
middle s v = v.from + 2 + two_at s v.from * 4

abbrev pub split_place : Bytes → Part → Act
split_place s v = Update (record { from = v.from + 2; to = middle s v }) (record { from = middle s v; to = v.to })

abbrev pub act_place : Reading → Action → Bytes → Part → Act
act_place reading action.Hold s v = held_place reading v
act_place reading action.Announce s v = Announce v
act_place reading action.Withdraw s v = Withdraw v
act_place reading action.Update s v = split_place s v

-- the former providers of an update end within its values
pub record SplitFits (s : Bytes) (v : Part) : Type 0 where
  pub ends : middle s v ≤ v.to
  pub within : v.to ≤ length s

abbrev pub Splits : Action → Bytes → Part → Type 0
Splits action.Hold s v = Unit {0}
Splits action.Announce s v = Unit {0}
Splits action.Withdraw s v = Unit {0}
Splits action.Update s v = SplitFits s v

-- the bytes of s from `at` on are a good run
pub record Ready (reading : Reading) (s : Bytes) (at : ℕ) : Type 0 where
  pub good : GoodAt (form_of reading) s at
  pub within : at ≤ length s

-- a field's item, as a reading has it
abbrev pub item_as : Reading → Cell → Item Bytes (Change Bytes)
item_as Withdrawn c = record { key = (entry_of form.Snapshot c).key; val = withdraw (entry_of form.Snapshot c).val }
item_as Announced c = record { key = (entry_of form.Snapshot c).key; val = announce (entry_of form.Snapshot c).val }
item_as Changes c = entry_of form.Delta c

-- the field of s at `at`, as an item
pub record FieldIs (reading : Reading) (s : Bytes) (at : ℕ) (e : Entry) : Type 0 where
  pub cell : Cell
  pub front : cells (drop at s) ≡ cell ∷ cells (drop e.next s)
  pub next : e.next ≡ at + 3 + length cell.body
  pub says : item_in s s e.key e.act ≡ item_as reading cell

-- an item of s, and where the run goes on
pub record EntryFits (reading : Reading) (s : Bytes) (at : ℕ) (e : Entry) : Type 0 where
  pub key : KeyIn s e.key
  pub act : ActFits s s e.act
  pub field : FieldIs reading s at e
  pub ahead : at < e.next
  pub ready : Ready reading s e.next

abbrev pub ReadFits : Reading → Bytes → ℕ → Option Entry → Type 0
ReadFits reading s at None = cells (drop at s) ≡ []
ReadFits reading s at (Some e) = EntryFits reading s at e

-- what stands at `at` is the first of what the run says from there on
abbrev pub read_is : Reading → Bytes → Option Entry → Delta Bytes Bytes
read_is reading s None = []
read_is reading s (Some e) = item_in s s e.key e.act ∷ read_as reading (drop e.next s)

pub record Reads (reading : Reading) (s : Bytes) (at : ℕ) (r : Option Entry) : Type 0 where
  pub fits : ReadFits reading s at r
  pub is : read_as reading (drop at s) ≡ read_is reading s r
