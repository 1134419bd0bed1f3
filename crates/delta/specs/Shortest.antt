-- Answers are as short as they can be, whatever way merges are grouped, and what is held afterwards.
use Rattle.delta.specs.Answer.{Merged}
use Rattle.std.specs.Prelude.{ℕ, ◌+◌, ◌≤◌, ◌≡◌, List, eqb, length, take, None, Ok, Err, Result}
use Rattle.std.proofs.Math.Option.{Option, none, some}
use Rattle.order.specs.Map as order
use Rattle.change.specs.History.{newest}
use Rattle.change.specs.Part.{Part}
use Rattle.change.specs.Grouping.{Grouping, leaves, merge_tree, steps}
use Rattle.serial.specs.declared.Serial.{Serial}
use Rattle.number.specs.Bytes.{AllBytes}
use Rattle.body.specs.declared.tag.Form.TheVariants.{Delta}
use Rattle.field.specs.Verdict.{verdict}
use Rattle.field.specs.Cells.{cells}
use Rattle.payload.specs.Content.{Bytes}
use Rattle.payload.specs.Count.{count_tags, announced_in, withdrawn_in}
use Rattle.payload.specs.Limit.{limit}
use Rattle.fit.specs.Fit.{fit_of}
use Rattle.delta.specs.Demand.{GoodSnapshot, Acceptable}
use Rattle.delta.specs.Answer.{difference_of, merged_of, applied_of, merge_of, merge_out, apply_of}
use Rattle.item.specs.declared.sink.Counts.{Counts}
use Rattle.delta.specs.declared.refusal.Refusal.{Refusal}

-- a good delta that can be applied to A and yields C
pub record LeadsTo (A C D : Bytes) : Type 0 where
  pub fine : verdict Delta D ≡ Ok tt
  pub fits : fit_of A D ≡ None
  pub yields : applied_of A D ≡ C

-- an answer beside another delta D
pub record NoLonger (answer D : Bytes) : Type 0 where
  -- every field of the answer is a field of D, in the same order
  pub within : Part (cells answer) (cells D)
  -- so D has no fewer items
  pub items : length (cells answer) ≤ length (cells D)
  -- nor fewer bytes
  pub bytes : length answer ≤ length D
  -- and where D has no more items it is the answer
  pub only : length (cells D) ≤ length (cells answer) → D ≡ answer

-- what `merge` has written into `out`, if it answers with a delta
abbrev pub written_of : Merged → Bytes → Option Bytes
written_of (Ok (serial, counts)) out = some (take counts.len out)
written_of (Err r) out = none

-- `merge`, called with this output on two deltas that were written before
abbrev pub merge_into : Bytes → Serial → Option Bytes → Option Bytes → Option Bytes
merge_into out serial none later = none
merge_into out serial (some earlier) none = none
merge_into out serial (some earlier) (some later) = written_of (merge_of earlier later serial (length out)) (merge_out earlier later out)

-- how many fields have this tag
abbrev pub tagged : ℕ → Bytes → ℕ
tagged tag s = count_tags (eqb tag) (cells s)

-- D applied to A yields C: those in C with those that D withdraws are as many as those in A with those that D announces
pub record Balance (A D C : Bytes) : Type 0 where
  pub origins : tagged 0x01 C + tagged 0x12 D ≡ tagged 0x01 A + tagged 0x11 D
  pub router_keys : tagged 0x02 C + tagged 0x22 D ≡ tagged 0x02 A + tagged 0x21 D
  -- ASPAs, one for each customer: an update (tag 0x33), which an answer's counts have among the announced, stands on neither side
  pub customers : tagged 0x03 C + tagged 0x32 D ≡ tagged 0x03 A + tagged 0x31 D
  -- all items, by the counts of an answer
  pub all : length (cells C) + withdrawn_in D + tagged 0x33 D ≡ length (cells A) + announced_in D

pub record Shortest : Type 0 where
  -- each delta that `apply` accepts on A leads from A to what it writes
  pub accepted : (A D : Bytes) (room n : ℕ) → apply_of A D room ≡ Ok n → LeadsTo A (applied_of A D) D
  -- the difference leads from A to C, and no good delta that does has fewer items or bytes
  pub leads : (A C : Bytes) → GoodSnapshot A → GoodSnapshot C → LeadsTo A C (difference_of A C)
  pub shortest : (A C D : Bytes) → GoodSnapshot A → GoodSnapshot C → AllBytes D → LeadsTo A C D → NoLonger (difference_of A C) D
  -- of the chain of snapshots S, then Ts: every way of grouping the merges of its differences gives the difference of its ends
  pub grouping : (g : Grouping Bytes) (S : Bytes) (Ts : List Bytes) → GoodSnapshot S → order.All GoodSnapshot Ts → leaves g ≡ steps difference_of S Ts →
      merge_tree merged_of g ≡ difference_of S (newest S Ts)
  -- and `merge`, with room for any delta, refuses none of them
  pub merges : (out : Bytes) (serial : Serial) (g : Grouping (Option Bytes)) (S : Bytes) (Ts : List Bytes) → limit Delta ≤ length out →
      Acceptable S → order.All Acceptable Ts → leaves g ≡ steps (λ (A B : Bytes). some (difference_of A B)) S Ts →
      merge_tree (merge_into out serial) g ≡ some (difference_of S (newest S Ts))
  -- the counts before and after
  pub balance : (A C D : Bytes) → GoodSnapshot A → LeadsTo A C D → Balance A D C
