-- Message order is a total order of all offsets.
use Prim.Native.Nat.{ℕ}
use mathlib.Core.Path.{◌≡◌, refl, sym, ap, ◌∙◌}
use mathlib.Core.Bool.{Bool, true, false}
use native.Mathlib.Omega.{arith}
use lib.Dec.{ltb}
use borrow.Author.Tests.{ltb-true, ltb-false, lt-ltb, le-ltb}
use Rattle.std.specs.declared.cmp.Ordering.{Ordering}
use Rattle.std.specs.declared.cmp.Ordering.TheVariants.{Less, Equal, Greater}
use Rattle.order.specs.Comparison.{bytes, flip}
use Rattle.order.proofs.Never.{never}
use Rattle.order.proofs.Comparison.{strings}
use Rattle.payload.specs.Content.{Bytes}
use Rattle.heard.specs.Place.{key_at, before, precedes}

pub true≢false : {X : Type 0} {b : Bool} → b ≡ true → b ≡ false → X
true≢false p q = never cc

module _ (s : Bytes) where
  -- no offset precedes itself
  pub never_self : (x : ℕ) → precedes s x x ≡ false
  unfolding precedes
  never_self x = rw (strings.self (key_at s x)) (le-ltb x x (omega arith))

  -- of two that precede neither way, both are one
  pub same_place : (x y : ℕ) → precedes s x y ≡ false → precedes s y x ≡ false → x ≡ y
  unfolding precedes
  same_place x y = go (bytes (key_at s x) (key_at s y)) (bytes (key_at s y) (key_at s x)) refl (strings.turn (key_at s x) (key_at s y))
    where
      go : (o r : Ordering) → bytes (key_at s x) (key_at s y) ≡ o → r ≡ flip (bytes (key_at s x) (key_at s y)) →
          before o (ltb x y) ≡ false → before r (ltb y x) ≡ false → x ≡ y
      go Less r e f p q = true≢false refl p
      go Greater Less e f p q = true≢false refl q
      go Greater Equal e f p q = let z : flip Greater ≡ Equal = sym (ap flip e) ∙ sym f in never cc
      go Greater Greater e f p q = let z : flip Greater ≡ Greater = sym (ap flip e) ∙ sym f in never cc
      go Equal Less e f p q = true≢false refl q
      go Equal Equal e f p q = omega (arith, ltb-false x y p, ltb-false y x q)
      go Equal Greater e f p q = let z : flip Equal ≡ Greater = sym (ap flip e) ∙ sym f in never cc

  pub precede_trans : (x y z : ℕ) → precedes s x y ≡ true → precedes s y z ≡ true → precedes s x z ≡ true
  unfolding precedes
  precede_trans x y z = go (bytes (key_at s x) (key_at s y)) (bytes (key_at s y) (key_at s z)) refl refl
    where
      go : (o r : Ordering) → bytes (key_at s x) (key_at s y) ≡ o → bytes (key_at s y) (key_at s z) ≡ r →
          before o (ltb x y) ≡ true → before r (ltb y z) ≡ true → before (bytes (key_at s x) (key_at s z)) (ltb x z) ≡ true
      go Less Less e f p q = rw (strings.trans (key_at s x) (key_at s y) (key_at s z) e f)
      go Less Equal e f p q = rw (← strings.same (key_at s y) (key_at s z) f, e)
      go Less Greater e f p q = true≢false q refl
      go Equal Less e f p q = rw (strings.same (key_at s x) (key_at s y) e, f)
      go Equal Equal e f p q = rw (strings.same (key_at s x) (key_at s y) e, f) (lt-ltb x z (omega (arith, ltb-true x y p, ltb-true y z q)))
      go Equal Greater e f p q = true≢false q refl
      go Greater r e f p q = true≢false p refl

  -- one that precedes does not follow
  pub precede_turn : (x y : ℕ) → precedes s x y ≡ true → precedes s y x ≡ false
  precede_turn x y p = go (precedes s y x) refl
    where
      go : (b : Bool) → precedes s y x ≡ b → b ≡ false
      go true e = true≢false (precede_trans x y x p e) (never_self x)
      go false e = refl

  -- what is not above one that is not above a third is not above that
  pub not_above_trans : (x y z : ℕ) → precedes s y x ≡ false → precedes s z y ≡ false → precedes s z x ≡ false
  not_above_trans x y z p q = go (precedes s z x) refl (precedes s y z) refl
    where
      go : (b : Bool) → precedes s z x ≡ b → (c : Bool) → precedes s y z ≡ c → b ≡ false
      go false e c f = refl
      go true e true f = true≢false (precede_trans y z x f e) p
      go true e false f = true≢false (rw (same_place z y q f) at e) p
