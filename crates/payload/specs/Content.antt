-- What a good field says: a key, and the value or the change that stands there; and the field that says it.
use Rattle.std.specs.Prelude.{ℕ, ◌+◌, ◌*◌, ◌/◌, ◌%◌, List, [], ◌∷◌, ◌++◌, cond, length, get_or, drop, eqb}
use Rattle.order.specs.Map.{Item}
use Rattle.change.specs.Change.{Change, announce, withdraw, update}
use Rattle.body.specs.declared.tag.Form.{Form}
use Rattle.body.specs.declared.tag.Form.TheVariants.{Snapshot, Delta}
use Rattle.body.specs.declared.tag.Action.{Action}
use Rattle.body.specs.declared.tag.Action.TheVariants.{Hold, Announce, Withdraw, Update}
use Rattle.body.specs.declared.tag.Tag.{Tag}
use Rattle.body.specs.declared.tag.Tag.TheVariants.{Unknown, Origin, RouterKey, Aspa}
use Rattle.body.specs.Tag.{tag_of, kind_of}
use Rattle.body.specs.Aspa.{former_of, new_of}
use Rattle.field.specs.Key.{key_of}
use Rattle.field.specs.Cells.{Cell}

abbrev pub Bytes : Type 0
Bytes = List ℕ

-- what stands at a key: in a snapshot a value, in a delta a change
abbrev pub Content : Form → Type 0
Content Snapshot = Bytes
Content Delta = Change Bytes

-- the value in a body: of an ASPA (kind 3) the providers, of others nothing
abbrev pub value_of : ℕ → Bytes → Bytes
value_of kind b = cond (eqb kind 3) (drop 4 b) []

abbrev pub action_of : Tag → Action
action_of Unknown = Hold
action_of (Origin a) = a
action_of (RouterKey a) = a
action_of (Aspa a) = a

-- the change in a body
abbrev pub change_of : Action → ℕ → Bytes → Change Bytes
change_of Hold kind b = announce (value_of kind b)
change_of Announce kind b = announce (value_of kind b)
change_of Withdraw kind b = withdraw (value_of kind b)
change_of Update kind b = update (former_of b) (new_of b)

abbrev pub content_of : (form : Form) → ℕ → Bytes → Content form
content_of Snapshot tag b = value_of (kind_of Snapshot tag) b
content_of Delta tag b = change_of (action_of (tag_of Delta tag)) (kind_of Delta tag) b

-- what a field says
abbrev pub entry_of : (form : Form) → Cell → Item Bytes (Content form)
entry_of form c = record { key = key_of (kind_of form c.tag) c.body; val = content_of form c.tag c.body }

-- the last hex digit of a delta's tag
abbrev pub digit : Change Bytes → ℕ
digit (announce n) = 1
digit (withdraw p) = 2
digit (update p n) = 3

-- the tag of an item of a kind
abbrev pub tag_for : (form : Form) → ℕ → Content form → ℕ
tag_for Snapshot kind v = kind
tag_for Delta kind c = kind * 16 + digit c

-- the two-byte count of a list of providers
abbrev pub count_of : Bytes → Bytes
count_of p = length p / 4 / 256 ∷ length p / 4 % 256 ∷ []

-- what stands behind the key in a body
abbrev pub values_for : Change Bytes → Bytes
values_for (announce n) = n
values_for (withdraw p) = p
values_for (update p n) = count_of p ++ (p ++ n)

abbrev pub body_for : (form : Form) → Bytes → Content form → Bytes
body_for Snapshot k v = k ++ v
body_for Delta k c = k ++ values_for c

-- the field that says an item: the key is the kind, then its bytes
abbrev pub cell_for : (form : Form) → Item Bytes (Content form) → Cell
cell_for form x = record { tag = tag_for form (get_or x.key 0 0) x.val; body = body_for form (drop 1 x.key) x.val }
