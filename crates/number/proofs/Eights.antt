-- Eight bytes at a time: a number of big-endian bytes decides as its bytes do.
use Prim.Native.Nat.{ℕ, zero, suc, ◌+◌, ◌-◌, ◌*◌, ◌<◌, ◌≤◌, min}
use mathlib.Core.Path.{◌≡◌, refl, sym, ◌∙◌}
use mathlib.Core.List.{List}
use native.Mathlib.Decide.{dec_lt}
use native.Mathlib.Omega.{arith}
use mir.Syntax.{w8}
use mir.Val.{Fits}
use lib.ListN.{length, get_or, take, drop, length-take, length-drop, get_or-eq_default}
use lib.Seq.{drop-cons, get_or-take, get_or-drop, take_all}
use Rattle.std.specs.declared.cmp.Ordering.{Ordering}
use Rattle.std.specs.declared.cmp.Ordering.TheVariants.{Less, Greater}
use Rattle.order.specs.Comparison.{or_else, number, bytes}
use Rattle.order.proofs.Comparison.{number_less, number_equal, number_greater, lex_std}
use Rattle.std.specs.Ordering.{nat_cmp}
use Rattle.std.specs.Cmp.Lexicographic.{slice_cmp}
use Rattle.number.specs.Number.{two_at, four_at, word_at}
use Rattle.number.specs.Bytes.{part}

-- each element is a byte
abbrev pub Octets : List ℕ → Type 0
Octets s = (i : ℕ) → Fits w8 (get_or s i 0)

-- the number of the n bytes at i
unfoldable pub digits : ℕ → List ℕ → ℕ → ℕ
digits zero s i = 0
digits (suc n) s i = digits n s i * 256 + get_or s (i + n) 0

pub two_digits : (s : List ℕ) (i : ℕ) → two_at s i ≡ digits 2 s i
unfolding digits
two_digits s i = let a : i + 0 ≡ i = omega arith in rw a (omega arith)

pub four_digits : (s : List ℕ) (i : ℕ) → four_at s i ≡ digits 4 s i
unfolding digits
four_digits s i = let a : i + 0 ≡ i = omega arith in rw a (omega arith)

pub word_digits : (s : List ℕ) (i : ℕ) → word_at s i ≡ digits 8 s i
unfolding word_at digits
word_digits s i =
    let a : i + 0 ≡ i = omega arith in
    let b : i + 4 + 1 ≡ i + 5 = omega arith in
    let c : i + 4 + 2 ≡ i + 6 = omega arith in
    let d : i + 4 + 3 ≡ i + 7 = omega arith in
    rw (a, b, c, d) (omega arith)

-- a part of bytes is bytes
pub part_bytes : (s : List ℕ) → Octets s → (from to : ℕ) → Octets (part s from to)
part_bytes s o from to i =
    elim (dec_lt i (to - from)) [
      | yes h ↦ rw (get_or-take (to - from) (drop from s) i 0 h, get_or-drop from s i 0) (o (from + i))
      | no h ↦ let z : length (part s from to) ≤ i = simp length-take (omega arith) in rw (get_or-eq_default (part s from to) 0 z) (record { fits = omega arith })
    ]

-- the digits of a part are those of the whole
pub part_digits : (s : List ℕ) (from to i n : ℕ) → i + n ≤ to - from → digits n (part s from to) i ≡ digits n s (from + i)
unfolding digits
part_digits s from to i zero h = refl
part_digits s from to i (suc n) h =
    let e : from + (i + n) ≡ from + i + n = omega arith in
    rw (part_digits s from to i n (omega arith), get_or-take (to - from) (drop from s) (i + n) 0 (omega arith), get_or-drop from s (i + n) 0, e)

-- a digit more
digit_more : (m n x y : ℕ) → x < 256 → y < 256 → (o : Ordering)
    → or_else (number m n) (or_else (number x y) o) ≡ or_else (number (m * 256 + x) (n * 256 + y)) o
digit_more m n x y h k o =
    elim (dec_lt m n) [
      | yes l ↦ rw (number_less m n l, number_less (m * 256 + x) (n * 256 + y) (omega arith))
      | no l ↦ elim (dec_lt n m) [
        | yes g ↦ rw (number_greater m n g, number_greater (m * 256 + x) (n * 256 + y) (omega arith))
        | no g ↦ rw (number_equal m n (omega arith)) (last (omega arith))
      ]
    ]
  where
    last : m ≡ n → or_else (number x y) o ≡ or_else (number (m * 256 + x) (n * 256 + y)) o
    last e =
        elim (dec_lt x y) [
          | yes l ↦ rw (number_less x y l, number_less (m * 256 + x) (n * 256 + y) (omega arith))
          | no l ↦ elim (dec_lt y x) [
            | yes g ↦ rw (number_greater x y g, number_greater (m * 256 + x) (n * 256 + y) (omega arith))
            | no g ↦ rw (number_equal x y (omega arith), number_equal (m * 256 + x) (n * 256 + y) (omega arith))
          ]
        ]

-- n bytes decide as their number does, or else the bytes behind them
module _ (a b : List ℕ) (o : Octets a) (p : Octets b) (i : ℕ) where
  pub digits_decide : (n : ℕ) → i + n ≤ length a → i + n ≤ length b
      → bytes (drop i a) (drop i b) ≡ or_else (number (digits n a i) (digits n b i)) (bytes (drop (i + n) a) (drop (i + n) b))
  unfolding digits
  digits_decide zero h k = let z : i + 0 ≡ i = omega arith in rw z
  digits_decide (suc n) h k =
      let m : i + suc n ≡ suc (i + n) = omega arith in
      let u : i + n < length a = omega arith in
      let v : i + n < length b = omega arith in
      digits_decide n (omega arith) (omega arith)
      ∙ rw (m, drop-cons a (i + n) 0 u, drop-cons b (i + n) 0 v)
      (digit_more (digits n a i) (digits n b i) (get_or a (i + n) 0) (get_or b (i + n) 0) (o (i + n)).fits (p (i + n)).fits (bytes (drop (suc (i + n)) a) (drop (suc (i + n)) b)))

-- ---- compare: the first i bytes are equal, so that the rest decides
pub record Worded (a b : List ℕ) (n i : ℕ) : Type 0 where
  pub both : n ≡ min (length a) (length b)
  pub within : i ≤ n
  pub rest : bytes (drop i a) (drop i b) ≡ bytes a b

pub worded_start : (a b : List ℕ) (n : ℕ) → n ≡ min (length a) (length b) → Worded a b n 0
worded_start a b n e = record { both = e; within = omega arith; rest = refl }

module _ (a b : List ℕ) (n i : ℕ) (l : Worded a b n i) where
  pub worded_left : 8 ≤ n - i → i + 8 ≤ length a
  worded_left h = omega (arith, l.both)

  pub worded_right : 8 ≤ n - i → i + 8 ≤ length b
  worded_right h = omega (arith, l.both)

  pub worded_end : (r : Ordering) → r ≡ slice_cmp nat_cmp (part a i (length a)) (part b i (length b)) → r ≡ bytes a b
  worded_end r e = e ∙ lex_std number (part a i (length a)) (part b i (length b)) ∙ rw (to_end a, to_end b) l.rest
    where
      to_end : (s : List ℕ) → take (length s - i) (drop i s) ≡ drop i s
      to_end s = take_all (length s - i) (drop i s) (simp length-drop (omega arith))

  module _ (o : Octets a) (p : Octets b) (h : 8 ≤ n - i) (x y : ℕ) (d : x ≡ word_at a i) (e : y ≡ word_at b i) where
    step : bytes a b ≡ or_else (number x y) (bytes (drop (i + 8) a) (drop (i + 8) b))
    step =
        sym l.rest
        ∙ rw (d, e, word_digits a i, word_digits b i) (digits_decide a b o p i 8 (worded_left h) (worded_right h))

    pub worded_less : x < y → Less ≡ bytes a b
    worded_less g = sym (step ∙ rw (number_less x y g))

    pub worded_greater : y < x → Greater ≡ bytes a b
    worded_greater g = sym (step ∙ rw (number_greater x y g))

    pub worded_more : y ≤ x → x ≤ y → Worded a b n (i + 8)
    worded_more g f =
        record { both = l.both; within = omega arith; rest = sym (step ∙ rw (number_equal x y (omega arith))) }

pub ruleset words = (worded_start, worded_left, worded_right, worded_end, worded_less, worded_greater, worded_more)

-- ---- a word as the code reads it

pub word_read : (s : List ℕ) (i x y : ℕ) → x ≡ four_at s i → y ≡ four_at s (i + 4) → x * 4_294_967_296 + y ≡ word_at s i
unfolding word_at
word_read s i x y p q = cc
