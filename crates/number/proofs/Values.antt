-- A list of bytes as a number, by the powers of two.
use Prim.Native.Nat.{ℕ, suc, ◌+◌, ◌*◌, ◌/◌, ◌%◌, ◌^◌, ◌<◌, ◌≤◌}
use mathlib.Core.Path.{◌≡◌, refl, sym, ap, ◌∙◌}
use mathlib.Core.List.{List, [], ◌∷◌}
use native.Mathlib.Omega.{arith}
use lib.Pow.{pow-add}
use lib.Arith.{digits_lt, digits_div, digits_mod}
use lib.ListN.{length, get_or, take, drop}
use lib.Seq.{drop-cons}
use Rattle.number.specs.Number.{word_at}
use Rattle.number.proofs.Eights.{Octets}

abbrev pub AllBelow : List ℕ → Type 0
AllBelow [] = Unit {0}
AllBelow (x ∷ l) = (x < 256) × AllBelow l

unfoldable pub value : List ℕ → ℕ
value [] = 0
value (x ∷ l) = x * 2 ^ (8 * length l) + value l

pub value_lt : (l : List ℕ) → AllBelow l → value l < 2 ^ (8 * length l)
unfolding value
value_lt [] h = omega arith
value_lt (x ∷ l) h =
    let e : 8 * suc (length l) ≡ 8 + 8 * length l = omega arith in
    rw (e, pow-add 2 8 (8 * length l)) (digits_lt h.0 (value_lt l h.1))

-- ---- the eight bytes at i

module _ (s : List ℕ) (o : Octets s) (i : ℕ) (h : i + 8 ≤ length s) where
  abbrev pub eight : List ℕ
  eight = get_or s i 0 ∷ get_or s (i + 1) 0 ∷ get_or s (i + 2) 0 ∷ get_or s (i + 3) 0 ∷ get_or s (i + 4) 0 ∷ get_or s (i + 5) 0 ∷ get_or s (i + 6) 0 ∷ get_or s (i + 7) 0 ∷ []

  next : (j n : ℕ) → j + suc n ≤ length s → take (suc n) (drop j s) ≡ get_or s j 0 ∷ take n (drop (suc j) s)
  next j n k = let g : j < length s = omega arith in rw (drop-cons s j 0 g)

  pub eight_is : take 8 (drop i s) ≡ eight
  eight_is =
      let e1 : suc i ≡ i + 1 = omega arith in
      let e2 : suc (i + 1) ≡ i + 2 = omega arith in
      let e3 : suc (i + 2) ≡ i + 3 = omega arith in
      let e4 : suc (i + 3) ≡ i + 4 = omega arith in
      let e5 : suc (i + 4) ≡ i + 5 = omega arith in
      let e6 : suc (i + 5) ≡ i + 6 = omega arith in
      let e7 : suc (i + 6) ≡ i + 7 = omega arith in
      rw (next i 7 (omega arith), e1, next (i + 1) 6 (omega arith), e2, next (i + 2) 5 (omega arith), e3, next (i + 3) 4 (omega arith), e4, next (i + 4) 3 (omega arith), e5, next (i + 5) 2 (omega arith), e6, next (i + 6) 1 (omega arith), e7, next (i + 7) 0 (omega arith))

  pub below : AllBelow eight
  below = ((o i).fits, ((o (i + 1)).fits, ((o (i + 2)).fits, ((o (i + 3)).fits, ((o (i + 4)).fits, ((o (i + 5)).fits, ((o (i + 6)).fits, ((o (i + 7)).fits, tt))))))))

  pub word_value : word_at s i ≡ value eight
  unfolding word_at value
  word_value =
      let b : i + 4 + 1 ≡ i + 5 = omega arith in
      let c : i + 4 + 2 ≡ i + 6 = omega arith in
      let d : i + 4 + 3 ≡ i + 7 = omega arith in
      rw (b, c, d) (omega arith)

-- equal values of equally many bytes are equal bytes
value_same : (a b : List ℕ) → AllBelow a → AllBelow b → length a ≡ length b → value a ≡ value b → a ≡ b
unfolding value
value_same [] [] h k l e = refl
value_same [] (y ∷ b) h k l e = absurd (omega arith)
value_same (x ∷ a) [] h k l e = absurd (omega arith)
value_same (x ∷ a) (y ∷ b) h k l e =
    let m : length a ≡ length b = omega arith in
    let w : ℕ = 2 ^ (8 * length b) in
    let p : value a < w = rw m at (value_lt a h.1) in
    let q : value b < w = value_lt b k.1 in
    let f : x * w + value a ≡ y * w + value b = rw m at e in
    let u : x ≡ y = sym (digits_div x p) ∙ ap (λ (n : ℕ). n / w) f ∙ digits_div y q in
    let v : value a ≡ value b = sym (digits_mod x p) ∙ ap (λ (n : ℕ). n % w) f ∙ digits_mod y q in
    cc (value_same a b h.1 k.1 m v)

-- equal words are equal bytes
pub word_bytes_lem : (a b : List ℕ) → Octets a → Octets b → (i j : ℕ) → i + 8 ≤ length a → j + 8 ≤ length b
    → word_at a i ≡ word_at b j → take 8 (drop i a) ≡ take 8 (drop j b)
word_bytes_lem a b o p i j h k e =
    eight_is a o i h
    ∙ value_same (eight a o i h) (eight b p j k) (below a o i h) (below b p j k) refl (sym (word_value a o i h) ∙ e ∙ word_value b p j k)
    ∙ sym (eight_is b p j k)
