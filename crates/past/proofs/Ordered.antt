-- Serials that are served, by RFC 1982.
use Prim.Native.Nat.{ℕ, ◌^◌, ◌≤◌, ◌<◌, min}
use mathlib.Core.Path.{◌≡◌, refl, sym}
use mathlib.Core.List.{List}
use mathlib.Core.Bool.{Bool, true, false}
use mathlib.Core.Logic.{◌⊎◌, inl, inr}
use native.Mathlib.Omega.{arith}
use lib.Dec.{eqb}
use borrow.Author.Tests.{eqb-true, eqb-false}
use Rattle.order.proofs.Never.{never}
use Rattle.serial.specs.declared.Serial.{Serial}
use Rattle.serial.specs.Serial.{distance_of}
use Rattle.serial.specs.Rfc1982.{half, standing}
use Rattle.serial.proofs.Standing.{stands_equal, stands_before}
use Rattle.payload.specs.Content.{Bytes}
use Rattle.past.specs.Promise.{changes_in, serial_in, InRule}
use Rattle.past.proofs.Served.{rule_within}
use Rattle.std.specs.declared.cmp.Ordering.TheVariants as ordering
use Rattle.std.specs.Prelude.{None, Some}

-- a serial less than half the circle before the newest is equal to it or before it
near_before : (newest asked : Serial) → newest.0 < 2 ^ 32 → asked.0 < 2 ^ 32 → distance_of newest asked < half →
    (standing asked newest ≡ Some ordering.Equal) ⊎ (standing asked newest ≡ Some ordering.Less)
near_before f a hf ha l = go (eqb (distance_of f a) 0) refl
  where
    go : (t : Bool) → eqb (distance_of f a) 0 ≡ t → (standing a f ≡ Some ordering.Equal) ⊎ (standing a f ≡ Some ordering.Less)
    go true e = let z = eqb-true (distance_of f a) 0 e in inl (sym (stands_equal a f ha hf (distance_of a f) refl (omega arith)))
    go false e = let z = eqb-false (distance_of f a) 0 e in inr (sym (stands_before a f ha hf (distance_of a f) refl (omega arith) (omega arith)))

-- with a keep of 1 to 64 every serial of the rule is
pub rule_before : (keep : ℕ) (start : Serial) (given : List Bytes) (asked : Serial) → 1 ≤ keep → keep ≤ 64 → start.0 < 2 ^ 32 → asked.0 < 2 ^ 32 → InRule keep start given asked →
    (standing asked (serial_in start given) ≡ Some ordering.Equal) ⊎ (standing asked (serial_in start given) ≡ Some ordering.Less)
rule_before keep start given asked least most k l r =
    let z : min keep (changes_in given) ≡ 0 → (serial_in start given).0 ≡ start.0 = λ e. omega arith in
    let w = rule_within start (min keep (changes_in given)) (serial_in start given) asked l z r in
    near_before (serial_in start given) asked (omega arith) l (omega arith)

-- and none that is unordered
pub rule_unordered : (keep : ℕ) (start : Serial) (given : List Bytes) (asked : Serial) → 1 ≤ keep → keep ≤ 64 → start.0 < 2 ^ 32 → asked.0 < 2 ^ 32 →
    standing asked (serial_in start given) ≡ None → ¬ InRule keep start given asked
rule_unordered keep start given asked least most k l u r = go (rule_before keep start given asked least most k l r)
  where
    go : (standing asked (serial_in start given) ≡ Some ordering.Equal) ⊎ (standing asked (serial_in start given) ≡ Some ordering.Less) → ⊥
    go (inl e) = never cc
    go (inr e) = never cc
