-- Demand 3, first part: what the answers of the three entries come to for good snapshots A, B and C within their limit.
use Rattle.std.specs.Prelude.{ℕ, ◌+◌, ◌≤◌, ◌≡◌, ◌↔◌, length, Err, Ok, None, Some}
use Rattle.serial.specs.declared.Serial.{Serial}
use Rattle.serial.specs.Serial.{next_of}
use Rattle.number.specs.Bytes.{AllBytes}
use Rattle.body.specs.declared.tag.Form.TheVariants.{Snapshot, Delta}
use Rattle.field.specs.Verdict.{verdict}
use Rattle.payload.specs.Content.{Bytes}
use Rattle.payload.specs.Limit.{limit}
use Rattle.payload.specs.Written.{written_over}
use Rattle.delta.specs.declared.refusal.Refusal.{Refusal}
use Rattle.delta.specs.Refusal.{number_of}
use Rattle.delta.specs.Answer.{difference_of, merged_of, counts_of, construct_of, construct_out, merge_of, merge_out, apply_of, apply_out}

-- a good snapshot
pub record GoodSnapshot (s : Bytes) : Type 0 where
  pub octets : AllBytes s
  pub fine : verdict Snapshot s ≡ Ok tt

-- one that the entries accept
pub record Acceptable (s : Bytes) : Type 0 where
  pub good : GoodSnapshot s
  pub short : length s ≤ limit Snapshot

pub record Demand : Type 0 where
  -- the bytes of A→B and of B→C, merged, are the bytes of A→C
  pub composes : (A B C : Bytes) → Acceptable A → Acceptable B → Acceptable C → merged_of (difference_of A B) (difference_of B C) ≡ difference_of A C
  -- and `merge`, with room for them, answers and writes so
  pub merges : (A B C : Bytes) → Acceptable A → Acceptable B → Acceptable C → (serial : Serial) (out : Bytes) → length (difference_of A C) ≤ length out →
      (merge_of (difference_of A B) (difference_of B C) serial (length out) ≡ Ok (serial, counts_of (difference_of A C)))
      × (merge_out (difference_of A B) (difference_of B C) out ≡ written_over (difference_of A C) out)
  -- `apply` refuses the difference on the old snapshot for want of room alone
  pub applies : (A B : Bytes) → Acceptable A → Acceptable B → (room : ℕ) (r : Refusal) → apply_of A (difference_of A B) room ≡ Err r → number_of r ≡ 4
  -- and with room it yields the new one, byte for byte
  pub yields : (A B : Bytes) → Acceptable A → Acceptable B → (out : Bytes) → length B ≤ length out →
      (apply_of A (difference_of A B) (length out) ≡ Ok (length B)) × (apply_out A (difference_of A B) out ≡ written_over B out)
  -- so do A→B and B→C, merged
  pub merged_yields : (A B C : Bytes) → Acceptable A → Acceptable B → Acceptable C → (out : Bytes) → length C ≤ length out →
      (apply_of A (merged_of (difference_of A B) (difference_of B C)) (length out) ≡ Ok (length C))
      × (apply_out A (merged_of (difference_of A B) (difference_of B C)) out ≡ written_over C out)
  -- `construct` says "no change" exactly for equal snapshots, and then writes nothing
  pub no_change : (A B : Bytes) → Acceptable A → Acceptable B → (serial : Serial) (room : ℕ) → construct_of A B serial room ≡ Ok None ↔ A ≡ B
  pub nothing_written : (A : Bytes) → Acceptable A → (out : Bytes) → construct_out A A out ≡ out
  -- else, with room, it writes the difference, with the serial after, its length and its counts of tags
  pub constructs : (A B : Bytes) → Acceptable A → Acceptable B → ¬ (A ≡ B) → (serial : Serial) (out : Bytes) → length (difference_of A B) ≤ length out →
      (construct_of A B serial (length out) ≡ Ok (Some (next_of serial, counts_of (difference_of A B))))
      × (construct_out A B out ≡ written_over (difference_of A B) out)
  -- with as much room as two inputs take together, it never refuses any of them with 4
  pub enough : (A B : Bytes) → AllBytes A → AllBytes B → (serial : Serial) (room : ℕ) (r : Refusal) → length A + length B ≤ room →
      construct_of A B serial room ≡ Err r → ¬ (number_of r ≡ 4)
  -- a difference is a good delta within its limit, and a merge of good deltas is a good delta
  pub good_difference : (A B : Bytes) → Acceptable A → Acceptable B → (verdict Delta (difference_of A B) ≡ Ok tt) × (length (difference_of A B) ≤ limit Delta)
  pub good_merge : (D F : Bytes) → verdict Delta D ≡ Ok tt → verdict Delta F ≡ Ok tt → verdict Delta (merged_of D F) ≡ Ok tt
