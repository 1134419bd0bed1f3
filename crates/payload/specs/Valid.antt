-- The items that snapshots and deltas can hold.
use Rattle.std.specs.Prelude.{◌≡◌, List, [], ◌∷◌, true, length}
use Rattle.order.specs.Comparison.{bytes}
use Rattle.order.specs.Map.{Item, All, Sorted}
use Rattle.change.specs.Change.{Change, announce, withdraw, update}
use Rattle.body.specs.declared.tag.Form.{Form}
use Rattle.body.specs.declared.tag.Form.TheVariants.{Snapshot, Delta}
use Rattle.body.specs.Origin.{good_origin}
use Rattle.body.specs.RouterKey.{good_router_key}
use Rattle.body.specs.Aspa.{good_providers, sensible_providers}
use Rattle.payload.specs.Content.{Bytes, Content}

-- a key and a value that it can have
pub data ValidValue : Bytes → Bytes → Type 0 where
  origin : {k : Bytes} → good_origin k ≡ true → ValidValue (1 ∷ k) []
  router_key : {k : Bytes} → good_router_key k ≡ true → ValidValue (2 ∷ k) []
  aspa : {k v : Bytes} → length k ≡ 4 → good_providers v ≡ true → sensible_providers k v ≡ true → ValidValue (3 ∷ k) v

-- a key and a change that it can have: only ASPAs are updated
pub data ValidChange : Bytes → Change Bytes → Type 0 where
  valid_announce : {k n : Bytes} → ValidValue k n → ValidChange k (announce n)
  valid_withdraw : {k p : Bytes} → ValidValue k p → ValidChange k (withdraw p)
  valid_update : {k p n : Bytes} → ValidValue (3 ∷ k) p → ValidValue (3 ∷ k) n → ValidChange (3 ∷ k) (update p n)

abbrev pub ValidContent : (form : Form) → Bytes → Content form → Type 0
ValidContent Snapshot k v = ValidValue k v
ValidContent Delta k c = ValidChange k c

abbrev pub Valid : (form : Form) → Item Bytes (Content form) → Type 0
Valid form x = ValidContent form x.key x.val

-- valid items in ascending order of their keys: what a good snapshot or delta is
pub record IsMap (form : Form) (xs : List (Item Bytes (Content form))) : Type 0 where
  pub sorted : Sorted bytes xs
  pub valid : All (Valid form) xs
