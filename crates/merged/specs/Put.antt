-- Writing the merge of many runs: what one step of it may assume, and what it leaves.
use Rattle.std.specs.Prelude.{ℕ, ◌+◌, ◌*◌, ◌≤◌, ◌<◌, ◌≡◌, [], ◌++◌, None, Option, Some}
use Rattle.std.proofs.lemmas.List.Edits.{sets}
use Rattle.body.specs.declared.tag.Form.TheVariants.{Delta}
use Rattle.payload.specs.Content.{Bytes}
use Rattle.payload.specs.Limit.{limit}
use Rattle.item.specs.declared.sink.Counts.{Counts}
use Rattle.item.specs.Write.{writes, plus_all}
use Rattle.cursors.specs.declared.runs.Walk.{Walk}
use Rattle.cursors.specs.Cursor.{D}
use Rattle.cursors.specs.Walk.{Underway, remains, items_of}

-- the counts leave room for so many items, of at most 40,000 bytes each
pub record Roomy (items : ℕ) (c : Counts) : Type 0 where
  pub len : c.len + 40_000 * items ≤ 40_000 * limit Delta
  pub announced : c.announced + items ≤ limit Delta
  pub withdrawn : c.withdrawn + items ≤ limit Delta

-- there is room for what is left
pub record Puts (w : Walk) (c : Counts) : Type 0 where
  pub underway : Underway w
  pub room : Roomy (items_of w) c

-- what was left is what was written and what is left now
pub record Wrote (w₀ w : Walk) (c : Counts) (o o' : Bytes) (written : D) (c' : Counts) : Type 0 where
  pub puts : Puts w c'
  pub is : remains w₀ ≡ written ++ remains w
  pub counts : c' ≡ plus_all Delta c written
  pub bytes : o' ≡ sets o c.len (writes Delta written)
  pub fewer : items_of w ≤ items_of w₀

-- so for some items; closed: a search does not look into it
pub data PutSome (w₀ w : Walk) (c : Counts) (o o' : Bytes) (c' : Counts) : Type 0 where
  put_some : (written : D) → Wrote w₀ w c o o' written c' → PutSome w₀ w c o o' c'

-- nothing was left; or something was written, and fewer items are left in the runs
pub data PutNext (w₀ w : Walk) (c : Counts) (o o' : Bytes) (r : Option Counts) : Type 0 where
  put_end : r ≡ None → remains w₀ ≡ [] → o' ≡ o → PutNext w₀ w c o o' r
  put_on : (c' : Counts) → r ≡ Some c' → PutSome w₀ w c o o' c' → items_of w < items_of w₀ → PutNext w₀ w c o o' r
