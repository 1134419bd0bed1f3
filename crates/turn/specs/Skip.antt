-- The run that two snapshots have in common.
use Rattle.std.specs.Prelude.{ℕ, ◌+◌, ◌≤◌, ◌≡◌, length, take, drop}
use Rattle.payload.specs.Content.{Bytes}
use Rattle.item.specs.declared.reading.Reading.{Reading}
use Rattle.item.specs.declared.reading.Reading.TheVariants.{Withdrawn, Announced}
use Rattle.item.specs.Reading.{Ready}
use Rattle.turn.specs.Left.{left_of}

-- m bytes of a from i on and of b from j on are equal
pub record SameAt (a : Bytes) (i : ℕ) (b : Bytes) (j m : ℕ) : Type 0 where
  pub same : take m (drop i a) ≡ take m (drop j b)

-- and all lie there
pub record Agrees (a : Bytes) (i : ℕ) (b : Bytes) (j m : ℕ) : Type 0 where
  pub within_a : i + m ≤ length a
  pub within_b : j + m ≤ length b
  pub same : SameAt a i b j m

-- two snapshots that agree at fields
pub record Common (a : Bytes) (i : ℕ) (b : Bytes) (j m : ℕ) : Type 0 where
  pub agrees : Agrees a i b j m
  pub ready_a : Ready Withdrawn a i
  pub ready_b : Ready Announced b j

-- k bytes further on both sides, at fields again, what is left to be merged is the same
pub record Skips (ra : Reading) (a : Bytes) (i : ℕ) (rb : Reading) (b : Bytes) (j k : ℕ) : Type 0 where
  pub is : left_of ra a i rb b j ≡ left_of ra a (i + k) rb b (j + k)
  pub ready_a : Ready ra a (i + k)
  pub ready_b : Ready rb b (j + k)
