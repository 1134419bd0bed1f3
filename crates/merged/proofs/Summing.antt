-- Laws of the sum of lengths.
use Prim.Native.Nat.{ℕ, suc, ◌+◌, ◌-◌, ◌*◌, ◌^◌, ◌≤◌, ◌<◌}
use mathlib.Core.Path.{◌≡◌}
use mathlib.Core.List.{List}
use native.Mathlib.Omega.{arith}
use lib.ListN.{length, get_or, drop, length-take, drop_of_length-le}
use lib.Seq.{drop-cons}
use Rattle.past.specs.Store.{total}
use Rattle.merged.specs.Place.{between}

-- the first k of the lengths are summed, and the others give the rest
pub record Sums (lens : List ℕ) (sum k : ℕ) : Type 0 where
  pub few : length lens ≤ 64
  pub small : sum ≤ k * 2 ^ 32
  pub left : sum + total (drop k lens) ≡ total lens

pub sums_start : (lens : List ℕ) (from to : ℕ) → to ≤ 64 → Sums (between lens from to) 0 0
sums_start lens from to h = record {
  few = omega (arith, length-take (to - from) (drop from lens));
  small = omega arith;
  left = omega arith;
}

module _ (lens : List ℕ) (sum k : ℕ) (c : Sums lens sum k) where
  pub sums_end : length lens ≤ k → sum ≡ total lens
  sums_end h =
      let e : sum + 0 ≡ total lens = rw (drop_of_length-le lens h) at c.left in
      omega arith

  module _ (h : k < length lens) (len : ℕ) (b : len < 2 ^ 32) where
    pub sums_fit : sum + len < 2 ^ 64
    sums_fit = omega (arith, c.small, c.few)

    pub sums_again : len ≡ get_or lens k 0 → Sums lens (sum + len) (k + 1)
    sums_again e =
        let z : k + 1 ≡ suc k = omega arith in
        let y : sum + (get_or lens k 0 + total (drop (suc k) lens)) ≡ total lens = rw (drop-cons lens k 0 h) at c.left in
        record {
          few = c.few;
          small = omega (arith, c.small);
          left = rw (z, e) (omega (arith, y));
        }

pub ruleset summing = (sums_start, sums_end, sums_fit, sums_again)
