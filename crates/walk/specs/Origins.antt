-- The merge of two deltas while both have origins.
use Rattle.std.specs.Prelude.{ℕ, ◌+◌, ◌^◌, ◌≤◌, ◌<◌, ◌≡◌, [], ◌∷◌, cond, eqb, length, get_or, take, drop, None, Option, Some}
use Rattle.order.specs.Map.{Item}
use Rattle.change.specs.Change.{Change, announce, withdraw}
use Rattle.change.specs.Difference as change
use Rattle.number.specs.Bytes.{part}
use Rattle.body.specs.declared.tag.Form.TheVariants.{Delta}
use Rattle.payload.specs.Content.{Bytes}
use Rattle.payload.specs.Payload.{changes}
use Rattle.item.specs.declared.sink.Counts.{Counts}
use Rattle.item.specs.declared.reading.Reading.TheVariants.{Changes}
use Rattle.item.specs.Reading.{Ready}
use Rattle.item.specs.Write.{writes}
use Rattle.walk.specs.Walk.{Wrote}
use Rattle.walk.specs.declared.pass.Stand.{Stand}

-- the change of the origin at `at`: tag 0x11 announces it, 0x12 withdraws it
abbrev pub origin_of : Bytes → ℕ → Item Bytes (Change Bytes)
origin_of s at = record { key = 1 ∷ part s (at + 3) (at + 26); val = cond (eqb (get_or s at 0) 0x11) (announce []) (withdraw []) }

-- the delta s has an origin at `at`, and goes on 26 bytes behind
pub record OriginAt (s : Bytes) (at : ℕ) : Type 0 where
  pub within : at + 26 ≤ length s
  pub tag : cond (eqb (get_or s at 0) 0x11) 0x11 0x12 ≡ get_or s at 0
  pub low : get_or s (at + 2) 0 ≡ 23
  pub is : changes (drop at s) ≡ origin_of s at ∷ changes (drop (at + 26) s)
  pub lies : writes Delta (origin_of s at ∷ []) ≡ take 26 (drop at s)
  pub next : Ready Changes s (at + 26)

-- one more origin can be counted
pub record OriginCountable (c : Counts) : Type 0 where
  pub len : c.len < 2 ^ 63 + 2 ^ 62
  pub announced : c.announced < 2 ^ 63 + 2 ^ 62
  pub withdrawn : c.withdrawn < 2 ^ 63 + 2 ^ 62

-- what is left of an origin that both have
abbrev pub both_origins : Bytes → ℕ → Bytes → ℕ → change.Delta Bytes Bytes
both_origins a i b j = cond (eqb (get_or a i 0) (get_or b j 0)) (origin_of a i ∷ []) []

-- both sides have an origin
pub record BothAt (a : Bytes) (i : ℕ) (b : Bytes) (j : ℕ) : Type 0 where
  pub left : OriginAt a i
  pub right : OriginAt b j

-- and there is a turn to be made
pub record Turns (a : Bytes) (i : ℕ) (b : Bytes) (j : ℕ) (c : Counts) : Type 0 where
  pub both : BothAt a i b j
  pub ready_a : Ready Changes a i
  pub ready_b : Ready Changes b j
  pub room : OriginCountable c

module _ (a : Bytes) (i : ℕ) (b : Bytes) (j : ℕ) (c : Counts) (o o' : Bytes) where
  abbrev pub OriginStepMeans : Option Stand → Type 0
  OriginStepMeans None = o' ≡ o
  OriginStepMeans (Some s) = Wrote Delta Changes a i Changes b j c o o' s.left s.right s.counts × (i + j < s.left + s.right)

  pub record OriginStepIs (r : Option Stand) : Type 0 where
    pub is : OriginStepMeans r
