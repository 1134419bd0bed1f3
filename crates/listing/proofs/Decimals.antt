-- The decimal digits of a number are those that the kit's `io::decimal` makes.
use Prim.Native.Nat.{ℕ, zero, suc, ◌+◌, ◌-◌, ◌/◌, ◌%◌, ◌^◌, ◌<◌, ◌≤◌}
use mathlib.Core.Path.{◌≡◌, refl}
use mathlib.Core.Bool.{Bool, true, false}
use native.Mathlib.Omega.{arith}
use native.Mathlib.Nat.{one-le-pow, pow-le-pow_right, pow-succ', pow-zero}
use borrow.Author.Tests.{lt-ltb, le-ltb, leb-true, leb-false}
use lib.Dec.{leb}
use lib.ListN.{length, take}
use Rattle.io.specs.Digits.{hex_digit_ascii, last_digits}
use Rattle.payload.specs.Content.{Bytes}
use Rattle.listing.specs.Put.{Puts}
use Rattle.listing.specs.Text.{decimal_f, decimal}

-- a digit below ten
digit : (n : ℕ) → hex_digit_ascii (n % 10) ≡ 48 + n % 10
digit n = let h : n % 10 < 10 = omega arith in rw (lt-ltb (n % 10) 10 h)

-- with room for j digits, the fewest that hold n, k of them
digits_are : (j k n : ℕ) → 1 ≤ k → k ≤ j → n < 10 ^ k → (1 < k → 10 ^ (k - 1) ≤ n) → decimal_f j n ≡ last_digits 10 k n
unfolding decimal_f
digits_are zero k n a b h g = absurd (omega arith)
digits_are (suc j) zero n a b h g = absurd (omega arith)
digits_are (suc j) (suc zero) n a b h g =
    let l : n < 10 = omega (arith, pow-succ' 10 0, pow-zero 10) in
    rw (lt-ltb n 10 l, digit n)
digits_are (suc j) (suc (suc q)) n a b h g =
    let p = pow-succ' 10 q in
    let p' = pow-succ' 10 (suc q) in
    let e : suc (suc q) - 1 ≡ suc q = omega arith in
    let low : 10 ^ suc q ≤ n = rw e at (g (omega arith)) in
    let one : 1 ≤ 10 ^ q = ones q in
    let l : 10 ≤ n = omega (arith, p, low, one) in
    let ih = digits_are j (suc q) (n / 10) (omega arith) (omega arith) (omega (arith, p', h))
    (λ r. let d : suc q - 1 ≡ q = omega arith in rw d (omega (arith, p, low))) in
    rw (le-ltb n 10 l, digit n, ih)
  where
    ones : (q : ℕ) → 1 ≤ 10 ^ q
    ones q = one-le-pow q 10 (omega arith)

-- a number of 64 bits has at most 20 digits
few : (n k : ℕ) → n < 2 ^ 64 → (1 < k → 10 ^ (k - 1) ≤ n) → k ≤ 20
few n k f g = go (leb k 20) refl
  where
    go : (t : Bool) → leb k 20 ≡ t → k ≤ 20
    go true e = leb-true k 20 e
    go false e =
        let h = leb-false k 20 e in
        let p : 10 ^ 20 ≤ 10 ^ (k - 1) = pow-le-pow_right (omega arith) {i = 20} {j = k - 1} (omega arith) in
        absurd (omega (arith, g (omega arith), p))

-- the text of a number, as `io::decimal` leaves it at the start of its array
module _ (n k : ℕ) (D : Bytes) (f : n < 2 ^ 64) (g : 1 < k → 10 ^ (k - 1) ≤ n) where
  pub number_room : (i : ℕ) → i < 2 ^ 63 → k ≡ length (take k D) → i + length (take k D) < 2 ^ 64
  number_room i h e = omega (arith, few n k f g)

  pub number_put : (o p : Bytes) (i r : ℕ) → 1 ≤ k → n < 10 ^ k → take k D ≡ last_digits 10 k n → Puts o i (take k D) p r →
      Puts o i (decimal n) p r
  unfolding decimal
  number_put o p i r a h e q = rw (digits_are 20 k n a (few n k f g) h g, ← e) q

pub ruleset numbers = (number_room, number_put)
