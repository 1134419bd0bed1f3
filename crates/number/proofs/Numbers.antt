-- Numbers of several bytes.
use Prim.Native.Nat.{ℕ, suc, ◌+◌, ◌*◌, ◌/◌, ◌%◌, ◌<◌, ◌≤◌}
use mathlib.Core.Path.{◌≡◌, sym, ap₂, ◌∙◌}
use mathlib.Core.List.{List, [], ◌∷◌, ◌++◌}
use native.Mathlib.Omega.{arith}
use mir.Syntax.{w8}
use mir.Val.{Fits}
use lib.ListN.{length, get_or, take, drop}
use lib.Seq.{drop-cons, drop-drop, take-add}
use Rattle.number.specs.Number.{four, four_at, word_at, two_bytes, four_bytes, word_bytes}

-- ---- the bytes of a number

four_back : (a b c d : ℕ) → a < 256 → b < 256 → c < 256 → d < 256 → four_bytes (four a b c d) ≡ a ∷ b ∷ c ∷ d ∷ []
unfolding two_bytes four_bytes
four_back a b c d h k l m =
    let p : four a b c d / 65_536 / 256 ≡ a = omega arith in
    let q : four a b c d / 65_536 % 256 ≡ b = omega arith in
    let r : four a b c d % 65_536 / 256 ≡ c = omega arith in
    let s : four a b c d % 65_536 % 256 ≡ d = omega arith in
    rw (p, q, r, s)

module _ (s : List ℕ) (o : (i : ℕ) → Fits w8 (get_or s i 0)) where
  four_taken : (i : ℕ) → i + 4 ≤ length s → take 4 (drop i s) ≡ get_or s i 0 ∷ get_or s (i + 1) 0 ∷ get_or s (i + 2) 0 ∷ get_or s (i + 3) 0 ∷ []
  four_taken i h =
      let next : (j n : ℕ) → j + suc n ≤ length s → take (suc n) (drop j s) ≡ get_or s j 0 ∷ take n (drop (suc j) s) = λ j n k. let g : j < length s = omega arith in rw (drop-cons s j 0 g) in
      let e1 : suc i ≡ i + 1 = omega arith in
      let e2 : suc (i + 1) ≡ i + 2 = omega arith in
      let e3 : suc (i + 2) ≡ i + 3 = omega arith in
      rw (next i 3 (omega arith), e1, next (i + 1) 2 (omega arith), e2, next (i + 2) 1 (omega arith), e3, next (i + 3) 0 (omega arith))

  pub bytes_of_four : (i : ℕ) → i + 4 ≤ length s → four_bytes (four_at s i) ≡ take 4 (drop i s)
  bytes_of_four i h = four_back (get_or s i 0) (get_or s (i + 1) 0) (get_or s (i + 2) 0) (get_or s (i + 3) 0) (o i).fits (o (i + 1)).fits (o (i + 2)).fits (o (i + 3)).fits ∙ sym (four_taken i h)

  pub four_lt : (i : ℕ) → four_at s i < 4_294_967_296
  four_lt i = omega (arith, (o i).fits, (o (i + 1)).fits, (o (i + 2)).fits, (o (i + 3)).fits)

  -- the halves of a word
  pub high_half : (i : ℕ) → word_at s i / 4_294_967_296 ≡ four_at s i
  unfolding word_at
  high_half i = plain (four_at s i) (four_at s (i + 4)) (four_lt (i + 4))
    where
      plain : (x y : ℕ) → y < 4_294_967_296 → (x * 4_294_967_296 + y) / 4_294_967_296 ≡ x
      plain x y h = omega arith

  pub low_half : (i : ℕ) → word_at s i % 4_294_967_296 ≡ four_at s (i + 4)
  unfolding word_at
  low_half i = plain (four_at s i) (four_at s (i + 4)) (four_lt (i + 4))
    where
      plain : (x y : ℕ) → y < 4_294_967_296 → (x * 4_294_967_296 + y) % 4_294_967_296 ≡ y
      plain x y h = omega arith

  pub bytes_of_word : (i : ℕ) → i + 8 ≤ length s → word_bytes (word_at s i) ≡ take 8 (drop i s)
  unfolding word_bytes
  bytes_of_word i h =
      ap₂ (λ (x y : ℕ). four_bytes x ++ four_bytes y) (high_half i) (low_half i)
      ∙ ap₂ (λ (x y : List ℕ). x ++ y) (bytes_of_four i (omega arith)) (bytes_of_four (i + 4) (omega arith))
      ∙ rw (take-add 4 4 (drop i s), drop-drop 4 i s)
