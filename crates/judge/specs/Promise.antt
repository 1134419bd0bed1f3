-- What comes of the messages that another cache sends, taken one after another.
use Rattle.std.specs.Prelude.{◌≡◌, List, [], ◌∷◌, map, cond, get_or}
use Rattle.std.proofs.Math.Option.{Option, none, some}
use Rattle.order.specs.Comparison.{bytes}
use Rattle.order.specs.Map.{Item, own, lookup}
use Rattle.change.specs.Change.{Change}
use Rattle.change.specs.Difference as change
use Rattle.change.specs.Application.{apply_at}
use Rattle.number.specs.Bytes.{AllBytes}
use Rattle.body.specs.declared.tag.Form.TheVariants.{Snapshot}
use Rattle.payload.specs.Content.{Bytes}
use Rattle.payload.specs.Payload.{encode, items, changes}
use Rattle.delta.specs.Answer.{difference_of}
use Rattle.delta.specs.Demand.{GoodSnapshot}
use Rattle.message.specs.declared.version.Version.{Version}
use Rattle.message.specs.Version.{speaks}
use Rattle.message.specs.Say.{kind_in, spoken}
use Rattle.message.specs.Hear.{Told, hear}
use Rattle.message.specs.Take.{all, as_item, take}

-- the later of two words on a key
abbrev pub later : Option (Change Bytes) → Option (Change Bytes) → Option (Change Bytes)
later (some c) o = some c
later none o = o

-- the last word of messages on a key, if they have any
abbrev pub last_word : Bytes → List Told → Option (Change Bytes)
last_word k [] = none
last_word k (t ∷ ts) = later (last_word k ts) (own (bytes k t.key) (some t.change) none)

-- the items of the kinds that a version does not speak of
unfoldable pub unspoken : {A : Type 0} → Version → List (Item Bytes A) → List (Item Bytes A)
unspoken v [] = []
unspoken v (x ∷ D) = cond (speaks v (kind_in x)) (unspoken v D) (x ∷ unspoken v D)

-- B is what the messages leave of a snapshot
abbrev pub Leave : Version → (snapshot messages : Bytes) → change.Snapshot Bytes Bytes → Type 0
Leave v snapshot messages B = take (items snapshot) (hear v messages).told ≡ all B

-- the messages say a delta, as far as the version speaks of its kinds
abbrev pub Say : Version → (messages : Bytes) → change.Delta Bytes Bytes → Type 0
Say v messages D = map as_item (hear v messages).told ≡ spoken v D

-- the messages leave of the base the current snapshot in all kinds that the version speaks of, and the base in the others
pub record LeadOn (v : Version) (base current messages : Bytes) : Type 0 where
  pub result : change.Snapshot Bytes Bytes
  pub leave : Leave v base messages result
  pub as_current : spoken v result ≡ spoken v (items current)
  pub as_base : unspoken v result ≡ unspoken v (items base)
  -- so where base and current agree in these, they leave the current one, byte for byte
  pub whole : unspoken v (items base) ≡ unspoken v (items current) → encode Snapshot result ≡ current

-- what B is then
pub record Outcome (v : Version) (snapshot messages : Bytes) (B : change.Snapshot Bytes Bytes) : Type 0 where
  -- its bytes are a good snapshot, which says it
  pub good : GoodSnapshot (encode Snapshot B)
  pub says : items (encode Snapshot B) ≡ B
  -- at each key the last message counts; where there is none, what stood there stays
  pub last_word_lem : (k : Bytes) → lookup bytes k B ≡ apply_at (lookup bytes k (items snapshot)) (last_word k (hear v messages).told)
  -- our ASPAs (kind 3) stay
  pub aspas_stay : (k : Bytes) → get_or k 0 0 ≡ 3 → lookup bytes k B ≡ lookup bytes k (items snapshot)

-- in every version
pub record Promise (v : Version) : Type 0 where
  -- whoever made the messages: what they leave of a good snapshot, if all are taken
  pub outcome : (snapshot messages : Bytes) (B : change.Snapshot Bytes Bytes) → GoodSnapshot snapshot → AllBytes messages → Leave v snapshot messages B →
      Outcome v snapshot messages B
  -- messages that say the difference of two good snapshots are all taken on the first, and lead on to the second
  pub delta_taken : (base current messages : Bytes) → GoodSnapshot base → GoodSnapshot current → Say v messages (changes (difference_of base current)) →
      LeadOn v base current messages
  -- messages that say all of a good snapshot are all taken on the empty one, and leave what the version speaks of
  pub full_taken : (current messages : Bytes) → GoodSnapshot current → Say v messages (changes (difference_of [] current)) → Leave v [] messages (spoken v (items current))
