-- The record of a message, byte by byte.
use Prim.Native.Nat.{ℕ, zero, suc, ◌+◌, ◌-◌, ◌*◌, ◌<◌, ◌≤◌}
use mathlib.Core.Path.{◌≡◌, refl}
use mathlib.Core.List.{[], ◌∷◌}
use mathlib.Core.Bool.{false}
use native.Mathlib.Omega.{arith}
use borrow.Author.Tests.{eq-eqb}
use lib.Dec.{eqb}
use lib.ListN.{length, get_or, take, drop}
use lib.Seq.{drop-cons}
use Rattle.number.specs.Number.{two, two_at, four, four_at, word_at}
use Rattle.number.specs.Bytes.{part}
use Rattle.payload.specs.Content.{Bytes}
use Rattle.heard.specs.Place.{type_at, size_at, key_at}

-- the byte j of the message at `at`
abbrev pub byte_at : Bytes → ℕ → ℕ → ℕ
byte_at s at j = get_or s (at + j) 0

-- n of its bytes from j on
abbrev pub listed : Bytes → ℕ → ℕ → ℕ → Bytes
listed s at zero j = []
listed s at (suc n) j = byte_at s at j ∷ listed s at n (suc j)

module _ (s : Bytes) (at : ℕ) where
  abbrev b : ℕ → ℕ
  b j = byte_at s at j

  pub two_from : (j : ℕ) → two_at s (at + j) ≡ two (b j) (b (j + 1))
  two_from j = let e : at + j + 1 ≡ at + (j + 1) = omega arith in rw e

  pub four_from : (j : ℕ) → four_at s (at + j) ≡ four (b j) (b (j + 1)) (b (j + 2)) (b (j + 3))
  four_from j =
      let e1 : at + j + 1 ≡ at + (j + 1) = omega arith in
      let e2 : at + j + 2 ≡ at + (j + 2) = omega arith in
      let e3 : at + j + 3 ≡ at + (j + 3) = omega arith in
      rw (e1, e2, e3)

  pub word_from : (j : ℕ) → word_at s (at + j) ≡ four (b j) (b (j + 1)) (b (j + 2)) (b (j + 3)) * 4_294_967_296 + four (b (j + 4)) (b (j + 5)) (b (j + 6)) (b (j + 7))
  unfolding word_at
  word_from j =
      let e : at + j + 4 ≡ at + (j + 4) = omega arith in
      let e1 : j + 4 + 1 ≡ j + 5 = omega arith in
      let e2 : j + 4 + 2 ≡ j + 6 = omega arith in
      let e3 : j + 4 + 3 ≡ j + 7 = omega arith in
      rw (four_from j, e, four_from (j + 4), e1, e2, e3)

  taken : (n j : ℕ) → at + j + n ≤ length s → take n (drop (at + j) s) ≡ listed s at n j
  taken zero j h = refl
  taken (suc n) j h =
      let g : at + j < length s = omega arith in
      let e : suc (at + j) ≡ at + suc j = omega arith in
      rw (drop-cons s (at + j) 0 g, e, taken n (suc j) (omega arith))

  pub part_listed : (i j n : ℕ) → j - i ≡ n → at + i + n ≤ length s → part s (at + i) (at + j) ≡ listed s at n i
  part_listed i j n e h = let d : at + j - (at + i) ≡ n = omega arith in rw (d, taken n i h)

-- an IPv4 prefix's record
abbrev pub four_key : (ℕ → ℕ) → Bytes
four_key b =
    1 ∷ 4 ∷ b 12 ∷ b 13 ∷ b 14 ∷ b 15 ∷ 0 ∷ 0
    ∷ 0 ∷ 0 ∷ 0 ∷ 0 ∷ 0 ∷ 0 ∷ 0 ∷ 0
    ∷ 0 ∷ 0 ∷ b 9 ∷ b 10 ∷ b 16 ∷ b 17 ∷ b 18 ∷ b 19 ∷ []

-- an IPv6 prefix's
abbrev pub six_key : (ℕ → ℕ) → Bytes
six_key b =
    1 ∷ 6 ∷ b 12 ∷ b 13 ∷ b 14 ∷ b 15 ∷ b 16 ∷ b 17
    ∷ b 18 ∷ b 19 ∷ b 20 ∷ b 21 ∷ b 22 ∷ b 23 ∷ b 24 ∷ b 25
    ∷ b 26 ∷ b 27 ∷ b 9 ∷ b 10 ∷ b 28 ∷ b 29 ∷ b 30 ∷ b 31 ∷ []

module _ (s : Bytes) (at : ℕ) where
  pub four_key_lem : type_at s at ≡ 4 → at + 20 ≤ length s → key_at s at ≡ four_key (byte_at s at)
  unfolding key_at
  four_key_lem e h = rw (eq-eqb (type_at s at) 4 e, part_listed s at 12 16 4 refl (omega arith), part_listed s at 16 20 4 refl (omega arith))

  pub six_key_lem : type_at s at ≡ 6 → at + 32 ≤ length s → key_at s at ≡ six_key (byte_at s at)
  unfolding key_at
  six_key_lem e h =
      let n : eqb (type_at s at) 4 ≡ false = rw e in
      rw (n, eq-eqb (type_at s at) 6 e, part_listed s at 12 28 16 refl (omega arith), part_listed s at 28 32 4 refl (omega arith))

  pub router_key_lem : type_at s at ≡ 9 → key_at s at ≡ 2 ∷ part s (at + 8) (at + size_at s at)
  unfolding key_at
  router_key_lem e =
      let m : eqb (type_at s at) 4 ≡ false = rw e in
      let n : eqb (type_at s at) 6 ≡ false = rw e in
      rw (m, n)
