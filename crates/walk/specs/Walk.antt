-- What the walk writes of two items with one key, and how far its counts can be.
use Rattle.std.specs.Prelude.{ℕ, ◌+◌, ◌*◌, ◌^◌, ◌≤◌, ◌<◌, ◌≡◌, [], ◌++◌, length, drop, cond, leb, None, Option, Some}
use Rattle.std.proofs.lemmas.List.Edits.{sets}
use Rattle.order.specs.Comparison.{bytes}
use Rattle.order.specs.Walk.{emit}
use Rattle.change.specs.Difference.{Delta}
use Rattle.change.specs.Merge.{table, merge}
use Rattle.body.specs.declared.tag.Form.{Form}
use Rattle.body.specs.declared.tag.Form.TheVariants as form
use Rattle.field.specs.Places.{key_in}
use Rattle.payload.specs.Content.{Bytes}
use Rattle.payload.specs.Limit.{limit}
use Rattle.payload.specs.Written.{written_if_room}
use Rattle.item.specs.declared.place.Entry.{Entry}
use Rattle.payload.specs.Count.{announces, withdraws, sum_of}
use Rattle.item.specs.declared.sink.Counts.{Counts}
use Rattle.item.specs.declared.reading.Reading.{Reading}
use Rattle.item.specs.declared.reading.Run.{Run}
use Rattle.turn.specs.Left.{left_of}
use Rattle.turn.specs.declared.turn.Side.TheVariants as side
use Rattle.std.specs.declared.ops.ControlFlow.{ControlFlow}
use Rattle.std.specs.declared.ops.ControlFlow.TheVariants.{Break, Continue}
use Rattle.turn.specs.declared.turn.Side.{Side}
use Rattle.walk.specs.declared.pass.Stand.{Stand}
use Rattle.item.specs.Reading.{read_as, Ready}
use Rattle.item.specs.Write.{writes, plus_all, zero}
use Rattle.item.specs.Place.{change_in, ActFits, KeyIn}

-- an item of s
pub record EntryIn (s : Bytes) (e : Entry) : Type 0 where
  pub key : KeyIn s e.key
  pub act : ActFits s s e.act

-- the item, or none, that is left of an earlier one and a later one
abbrev pub both_of : Bytes → Entry → Bytes → Entry → Delta Bytes Bytes
both_of a x b y = emit (key_in a x.key) (table bytes (change_in a a x.act) (change_in b b y.act)) []

-- what was counted so far leaves room for what the run still has: one field has at most 40,000 bytes
pub record Passed (c : Counts) (at size : ℕ) : Type 0 where
  pub short : size ≤ limit form.Delta
  pub len : c.len ≤ 40_000 * (limit form.Delta + at)
  pub announced : c.announced ≤ limit form.Delta + at
  pub withdrawn : c.withdrawn ≤ limit form.Delta + at

-- what was left at i and j is what was written and what is left at p and q; no more was written than was passed: at most
-- 40,000 bytes and one item for each byte
pub record Wrote (form : Form) (ra : Reading) (a : Bytes) (i : ℕ) (rb : Reading) (b : Bytes) (j : ℕ) (c : Counts) (o o' : Bytes) (p q : ℕ) (c' : Counts) : Type 0 where
  pub written : Delta Bytes Bytes
  pub is : left_of ra a i rb b j ≡ written ++ left_of ra a p rb b q
  pub counts : c' ≡ plus_all form c written
  pub laid : o' ≡ sets o c.len (writes form written)
  pub short : length (writes form written) + 40_000 * (i + j) ≤ 40_000 * (p + q)
  pub announced : sum_of announces written + (i + j) ≤ p + q
  pub withdrawn : sum_of withdraws written + (i + j) ≤ p + q
  pub ready_a : Ready ra a p
  pub ready_b : Ready rb b q
  pub on_a : i ≤ p
  pub on_b : j ≤ q

-- where a walk stands between two turns: the counts leave room for all that is left
pub record Stands (ra : Reading) (a : Bytes) (i : ℕ) (rb : Reading) (b : Bytes) (j : ℕ) (c : Counts) : Type 0 where
  pub ready_a : Ready ra a i
  pub ready_b : Ready rb b j
  pub short_a : length a ≤ limit form.Delta
  pub short_b : length b ≤ limit form.Delta
  pub len : c.len < 2 ^ 63
  pub announced : c.announced < 2 ^ 63
  pub withdrawn : c.withdrawn < 2 ^ 63

module _ (form : Form) (ra : Reading) (a : Bytes) (i : ℕ) (rb : Reading) (b : Bytes) (j : ℕ) (c : Counts) (o o' : Bytes) where
  -- one side has run out, or where the walk goes on
  abbrev pub StepMeans : ControlFlow Side Stand → Type 0
  StepMeans (Break side.Left) = (o' ≡ o) × (read_as rb (drop j b) ≡ [])
  StepMeans (Break side.Right) = (o' ≡ o) × (read_as ra (drop i a) ≡ [])
  StepMeans (Continue s) = Wrote form ra a i rb b j c o o' s.left s.right s.counts × (i + j < s.left + s.right)

  pub record StepIs (r : ControlFlow Side Stand) : Type 0 where
    pub is : StepMeans r

-- two runs within the longer of the limits
pub record Sized (a b : Bytes) : Type 0 where
  pub short_a : length a ≤ limit form.Delta
  pub short_b : length b ≤ limit form.Delta

-- a run of n bytes, and what it says is as long in each form
pub record Sizes (reading : Reading) (s : Bytes) (n : ℕ) : Type 0 where
  pub is : n ≡ length s
  pub written : (form : Form) → length (writes form (read_as reading s)) ≡ n

-- two good runs, within the longer of the limits
pub record Runs (ra : Reading) (a : Bytes) (rb : Reading) (b : Bytes) : Type 0 where
  pub good_a : Ready ra a 0
  pub good_b : Ready rb b 0
  pub short_a : length a ≤ limit form.Delta
  pub short_b : length b ≤ limit form.Delta

-- both read as changes and merged
abbrev pub merged_as : Reading → Bytes → Reading → Bytes → Delta Bytes Bytes
merged_as ra a rb b = merge bytes bytes (read_as ra a) (read_as rb b)

abbrev pub merged_of : Run → Run → Delta Bytes Bytes
merged_of a b = merged_as a.reading a.bytes.now b.reading b.bytes.now

-- the whole of it, where there is room for that
abbrev pub output_of : Form → Delta Bytes Bytes → ℕ → Option Counts
output_of form D room = cond (leb (length (writes form D)) room) (Some (plus_all form zero D)) None

abbrev pub whole_out : Form → Delta Bytes Bytes → Bytes → Bytes
whole_out form D out = written_if_room (writes form D) out
