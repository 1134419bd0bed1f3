-- Laws of the order of serials.
use Rattle.std.proofs.Common.{◌≡◌, ℕ, ◌-◌, ◌^◌, ◌<◌, ◌≤◌, Bool, true, false, eqb, ltb, ◌↔◌, sym, refl, arith, ltb-false, ltb-true, le-ltb, lt-ltb, eq-eqb, ne_eqb}
use Rattle.serial.specs.declared.Serial.{Serial}
use Rattle.serial.specs.Serial.{next_of, distance_of}
use Rattle.serial.specs.Rfc1982.{half, first_true, standing}
use Rattle.serial.proofs.Steps.{next_below, next_distance}
use Rattle.std.specs.declared.cmp.Ordering.TheVariants as ordering
use Rattle.std.specs.Prelude.{None, Some}

-- of two numbers the first is below, the same or above
data Side (m n : ℕ) : Type 0 where
  below : m < n → Side m n
  same : m ≡ n → Side m n
  above : n < m → Side m n

side : (m n : ℕ) → Side m n
side m n = go (ltb m n) refl (ltb n m) refl
  where
    go : (x : Bool) → ltb m n ≡ x → (y : Bool) → ltb n m ≡ y → Side m n
    go true p y q = below (ltb-true m n p)
    go false p true q = above (ltb-true n m q)
    go false p false q = same (omega (arith, ltb-false m n p, ltb-false n m q))

-- the standing by the cases of the RFC's text: the numbers equal, rising or falling, by less than half, by half or by more
module _ (a b : Serial) where
  level : a.0 ≡ b.0 → (Some ordering.Equal) ≡ standing a b
  unfolding standing first_true
  level e = rw (eq-eqb a.0 b.0 e)

  module _ (h : a.0 < b.0) where
    rising : (eqb a.0 b.0 ≡ false) × (ltb a.0 b.0 ≡ true) × (ltb b.0 a.0 ≡ false)
    rising = (ne_eqb a.0 b.0 (omega arith), lt-ltb a.0 b.0 h, le-ltb b.0 a.0 (omega arith))

    rise_near : b.0 - a.0 < half → (Some ordering.Less) ≡ standing a b
    unfolding standing first_true
    rise_near k = rw (rising.0, rising.1, lt-ltb (b.0 - a.0) half k)

    rise_half : b.0 - a.0 ≡ half → None ≡ standing a b
    unfolding standing first_true
    rise_half k = rw (rising.0, rising.1, rising.2, k)

    rise_far : half < b.0 - a.0 → (Some ordering.Greater) ≡ standing a b
    unfolding standing first_true
    rise_far k = rw (rising.0, rising.1, rising.2, le-ltb (b.0 - a.0) half (omega arith), lt-ltb half (b.0 - a.0) k)

  module _ (h : b.0 < a.0) where
    falling : (eqb a.0 b.0 ≡ false) × (ltb a.0 b.0 ≡ false) × (ltb b.0 a.0 ≡ true)
    falling = (ne_eqb a.0 b.0 (omega arith), le-ltb a.0 b.0 (omega arith), lt-ltb b.0 a.0 h)

    fall_near : a.0 - b.0 < half → (Some ordering.Greater) ≡ standing a b
    unfolding standing first_true
    fall_near k = rw (falling.0, falling.1, falling.2, le-ltb half (a.0 - b.0) (omega arith), lt-ltb (a.0 - b.0) half k)

    fall_half : a.0 - b.0 ≡ half → None ≡ standing a b
    unfolding standing first_true
    fall_half k = rw (falling.0, falling.1, falling.2, k)

    fall_far : half < a.0 - b.0 → (Some ordering.Less) ≡ standing a b
    unfolding standing first_true
    fall_far k = rw (falling.0, falling.1, falling.2, lt-ltb half (a.0 - b.0) k)

-- the standing by how far the first serial is past the second
module _ (a b : Serial) (ha : a.0 < 2 ^ 32) (hb : b.0 < 2 ^ 32) (d : ℕ) (e : d ≡ distance_of a b) where
  -- at distance 0 the two are equal
  pub stands_equal : d ≡ 0 → (Some ordering.Equal) ≡ standing a b
  stands_equal z = level a b (omega arith)

  -- at a distance from 1 to 2^31 - 1 the first is after the second
  pub stands_after : (d ≡ 0 → ⊥) → d < half → (Some ordering.Greater) ≡ standing a b
  stands_after n k = elim (side a.0 b.0) [
    | below h ↦ rise_far a b h (omega arith)
    | same q ↦ absurd (n (omega arith))
    | above h ↦ fall_near a b h (omega arith)
  ]

  -- at distance 2^31 the two are unordered
  pub stands_unordered : d ≡ half → None ≡ standing a b
  stands_unordered k = elim (side a.0 b.0) [
    | below h ↦ rise_half a b h (omega arith)
    | same q ↦ absurd (omega arith)
    | above h ↦ fall_half a b h (omega arith)
  ]

  -- at a greater distance the first is before the second
  pub stands_before : half ≤ d → (d ≡ half → ⊥) → (Some ordering.Less) ≡ standing a b
  stands_before k n = elim (side a.0 b.0) [
    | below h ↦ rise_near a b h (omega arith)
    | same q ↦ absurd (omega arith)
    | above h ↦ fall_far a b h (omega arith)
  ]

pub ruleset standings = (stands_equal, stands_after, stands_unordered, stands_before)

-- the serial after stands after
pub next_after : (s : Serial) → s.0 < 2 ^ 32 → standing (next_of s) s ≡ Some ordering.Greater
next_after s h = sym (stands_after (next_of s) s (next_below s) h 1 (sym (next_distance s h)) (omega arith) (omega arith))

-- two serials are unordered exactly at distance 2^31
pub unordered_half : (a b : Serial) → a.0 < 2 ^ 32 → b.0 < 2 ^ 32 → standing a b ≡ None ↔ distance_of a b ≡ half
unordered_half a b ha hb = (only, λ e. sym (stands_unordered a b ha hb d refl e))
  where
    d : ℕ
    d = distance_of a b

    only : standing a b ≡ None → d ≡ half
    only u = elim (side d half) [
      | below h ↦ elim (side d 0) [
        | below k ↦ omega arith
        | same k ↦ let z : ◌≡◌ {A = ℕ} 0 1 = cc (stands_equal a b ha hb d refl k) in omega arith
        | above k ↦ let z : ◌≡◌ {A = ℕ} 0 1 = cc (stands_after a b ha hb d refl (omega arith) h) in omega arith
      ]
      | same h ↦ h
      | above h ↦ let z : ◌≡◌ {A = ℕ} 0 1 = cc (stands_before a b ha hb d refl (omega arith) (omega arith)) in omega arith
    ]
