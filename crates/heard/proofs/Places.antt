-- Laws of the readers of a message.
use Prim.Native.Nat.{ℕ, ◌+◌, ◌%◌, ◌<◌, ◌≤◌}
use mathlib.Core.Path.{◌≡◌}
use native.Mathlib.Omega.{arith}
use borrow.Author.Tests.{eq-eqb, ne_eqb}
use lib.Dec.{eqb}
use lib.ListN.{length, get_or}
use Rattle.number.specs.Number.{word_at}
use Rattle.number.proofs.Eights.{Octets}
use Rattle.number.proofs.Numbers.{low_half}
use Rattle.payload.specs.Content.{Bytes}
use Rattle.heard.specs.Place.{type_at, size_at, announces_at, Sized, v4, v6, key, Payload}

-- ---- what lies within

module _ (s : Bytes) (at : ℕ) (p : Payload s at) where
  -- the length of each type
  size_bounds : Sized s at → (20 ≤ size_at s at) × (size_at s at ≤ 1_056)
  size_bounds (v4 t n) = (omega arith, omega arith)
  size_bounds (v6 t n) = (omega arith, omega arith)
  size_bounds (key t n m) = (omega arith, omega arith)

  pub size_least : 20 ≤ size_at s at
  size_least = (size_bounds p.sized).0

  pub size_most : size_at s at ≤ 1_056
  size_most = (size_bounds p.sized).1

  pub least : at + 20 ≤ length s
  least = omega (arith, size_least, p.within)

  longer : Sized s at → (type_at s at ≡ 4 → ⊥) → at + 32 ≤ length s
  longer (v4 t n) h = absurd (h t)
  longer (v6 t n) h = omega (arith, p.within)
  longer (key t n m) h = omega (arith, p.within)

  pub long : (type_at s at ≡ 4 → ⊥) → at + 32 ≤ length s
  long h = longer p.sized h

  last : Sized s at → (type_at s at ≡ 4 → ⊥) → (type_at s at ≡ 6 → ⊥) → type_at s at ≡ 9
  last (v4 t n) h k = absurd (h t)
  last (v6 t n) h k = absurd (k t)
  last (key t n m) h k = t

  -- the third type
  pub third : (type_at s at ≡ 4 → ⊥) → (type_at s at ≡ 6 → ⊥) → type_at s at ≡ 9
  third h k = last p.sized h k

  -- ---- type_at, size_at, announces

  pub in_1 : at + 1 < length s
  in_1 = omega (arith, least)

  pub in_2 : at + 2 < length s
  in_2 = omega (arith, least)

  pub in_8 : at + 8 < length s
  in_8 = omega (arith, least)

  pub first_word : at + 8 ≤ length s
  first_word = omega (arith, least)

  module _ (o : Octets s) (w : ℕ) (e : w ≡ word_at s at) where
    pub size_is : w % 4_294_967_296 ≡ size_at s at
    size_is = rw e (low_half s o at)

    pub size_low : 8 ≤ w % 4_294_967_296
    size_low = omega (arith, size_is, size_least)

    pub size_high : w % 4_294_967_296 ≤ 1_056
    size_high = omega (arith, size_is, size_most)

pub announces_key : (s : Bytes) (at : ℕ) → type_at s at ≡ 9 → eqb (get_or s (at + 2) 0) 1 ≡ announces_at s at
announces_key s at e = rw (eq-eqb (type_at s at) 9 e)

pub announces_prefix : (s : Bytes) (at : ℕ) → (type_at s at ≡ 9 → ⊥) → eqb (get_or s (at + 8) 0) 1 ≡ announces_at s at
announces_prefix s at e = rw (ne_eqb (type_at s at) 9 e)

pub ruleset places = (in_1, in_2, in_8, first_word, size_is, size_low, size_high, announces_key, announces_prefix)
