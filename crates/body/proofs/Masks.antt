-- The bits of an address past its prefix, by words of eight bytes.
use Prim.Native.Nat.{ℕ, zero, suc, ◌+◌, ◌-◌, ◌*◌, ◌%◌, ◌^◌, ◌<◌, ◌≤◌}
use mathlib.Core.Path.{◌≡◌, refl, sym, ap, ◌∙◌}
use mathlib.Core.List.{List, [], ◌∷◌, ◌++◌}
use mathlib.Core.Bool.{Bool, true, false, ◌&&◌, and-false}
use native.Mathlib.Decide.{dec_lt}
use native.Mathlib.Nat.{zero-mod, mod-one, mod-eq_of_lt, mul-add-mod_self_right, mul_assoc, mul-div_cancel, mul-mod_left}
use native.Mathlib.Omega.{arith}
use borrow.Author.Tests.{ne_eqb}
use mir.Syntax.{w8, w64}
use mir.Val.{Fits}
use lib.Dec.{eqb}
use lib.Pow.{pow_pos, pow-add}
use lib.Arith.{digits_lt, digits_div, digits_mod, mod-mul}
use lib.ListN.{length, get_or, take, drop, length-drop}
use lib.Seq.{drop-drop, take-add, length-take-le}
use Rattle.number.specs.Number.{word_at}
use Rattle.number.proofs.Eights.{Octets}
use Rattle.number.proofs.Values.{AllBelow, value, value_lt, eight, eight_is, below, word_value}
use Rattle.body.specs.Origin.{address, clean_byte, clean}
use Rattle.body.specs.Halves.{clean_halves}

-- ---- a list of bytes as a number

-- one byte and the rest
both_zero : (a v w : ℕ) → 0 < w → eqb a 0 && eqb v 0 ≡ eqb (a * w + v) 0
both_zero zero v w h = let e : 0 * w + v ≡ v = omega arith in rw e
both_zero (suc a) v w h =
    let pos = digits_lt {q = 0} {m = suc a} {r = 0} {c = w} (omega arith) h in
    let e : eqb (suc a) 0 ≡ false = ne_eqb (suc a) 0 (λ z. omega arith) in
    let f : eqb (suc a * w + v) 0 ≡ false = ne_eqb (suc a * w + v) 0 (λ z. omega arith) in
    rw (e, f)

clean_value : (l : List ℕ) → AllBelow l → (p : ℕ) → clean p l ≡ eqb (value l % 2 ^ (8 * length l - p)) 0
unfolding value clean
clean_value [] h p = rw zero-mod
clean_value (x ∷ l) h p =
    let n : ℕ = 8 * length l in
    let v : ℕ = value l in
    let less : v < 2 ^ n = value_lt l h.1 in
    elim (dec_lt p 8) [
      | yes k ↦
          let d : 8 * suc (length l) - p ≡ (8 - p) + n = omega arith in
          let z : p - 8 ≡ 0 = omega arith in
          let z2 : n - 0 ≡ n = omega arith in
          let rest : clean (p - 8) l ≡ eqb v 0 = rw (clean_value l h.1 (p - 8), z, z2, mod-eq_of_lt less) in
          let split : (x * 2 ^ n + v) % (2 ^ (8 - p) * 2 ^ n) ≡ (x % 2 ^ (8 - p)) * 2 ^ n + v
          = mod-mul (x * 2 ^ n + v) (pow_pos (8 - p)) (pow_pos n) ∙ rw (digits_div x less, digits_mod x less) in
          rw (rest, d, pow-add 2 (8 - p) n, split) (both_zero (x % 2 ^ (8 - p)) v (2 ^ n) (pow_pos n))
      | no k ↦
          let m : ℕ = 8 * suc (length l) - p in
          let d : n - (p - 8) ≡ m = omega arith in
          let z : 8 - p ≡ 0 = omega arith in
          let f : n ≡ (n - m) + m = omega arith in
          let g : (x * 2 ^ n + v) % 2 ^ m ≡ v % 2 ^ m
          = ap (λ (y : ℕ). (x * y + v) % 2 ^ m) (ap (λ (y : ℕ). 2 ^ y) f ∙ pow-add 2 (n - m) m)
          ∙ rw (← mul_assoc x (2 ^ (n - m)) (2 ^ m)) (mul-add-mod_self_right (x * 2 ^ (n - m)) (2 ^ m) v) in
          rw (z, mod-one, clean_value l h.1 (p - 8), d, g)
    ]

clean_append : (a b : List ℕ) (p : ℕ) → clean p (a ++ b) ≡ clean p a && clean (p - 8 * length a) b
unfolding clean
clean_append [] b p = let z : p - 0 ≡ p = omega arith in rw z
clean_append (x ∷ a) b p =
    let z : p - 8 * suc (length a) ≡ p - 8 - 8 * length a = omega arith in
    rw (clean_append a b (p - 8), z) (assoc (clean_byte p x) (clean (p - 8) a) (clean (p - 8 - 8 * length a) b))
  where
    assoc : (u v w : Bool) → u && (v && w) ≡ (u && v) && w
    assoc true v w = refl
    assoc false v w = refl

-- the eight bytes at i
clean_word : (s : List ℕ) → Octets s → (i : ℕ) → i + 8 ≤ length s → (p : ℕ) → clean p (take 8 (drop i s)) ≡ eqb (word_at s i % 2 ^ (64 - p)) 0
clean_word s o i h p = rw (eight_is s o i h, word_value s o i h) (clean_value (eight s o i h) (below s o i h) p)

true_right : (b : Bool) → b && true ≡ b
true_right true = refl
true_right false = refl

-- a shift leaves what lies past the prefix
shift_zero : (x p : ℕ) → p ≤ 64 → eqb ((x * 2 ^ p) % 2 ^ 64) 0 ≡ eqb (x % 2 ^ (64 - p)) 0
shift_zero x p h =
    let d : 64 ≡ (64 - p) + p = omega arith in
    let e : (x * 2 ^ p) % (2 ^ (64 - p) * 2 ^ p) ≡ (x % 2 ^ (64 - p)) * 2 ^ p + 0
    = mod-mul (x * 2 ^ p) (pow_pos (64 - p)) (pow_pos p) ∙ rw (mul-div_cancel x (pow_pos p), mul-mod_left x (2 ^ p)) in
    let f : 2 ^ 64 ≡ 2 ^ (64 - p) * 2 ^ p = ap (λ (y : ℕ). 2 ^ y) d ∙ pow-add 2 (64 - p) p in
    ap (λ (y : ℕ). eqb ((x * 2 ^ p) % y) 0) f ∙ rw e (sym (both_zero (x % 2 ^ (64 - p)) 0 (2 ^ p) (pow_pos p)) ∙ true_right (eqb (x % 2 ^ (64 - p)) 0))

-- ---- an address by its halves

module _ (p high low : ℕ) where
  pub halves_low : Fits w64 low → p < 64 → (low ≡ 0 → ⊥) → false ≡ clean_halves p high low
  unfolding clean_halves
  halves_low w k n =
      let z : 64 - (p - 64) ≡ 64 = omega arith in
      rw (z, mod-eq_of_lt w.fits, ne_eqb low 0 n) (sym (and-false (eqb (high % 2 ^ (64 - p)) 0)))

  pub halves_high : p < 64 → low ≡ 0 → eqb ((high * 2 ^ p) % 2 ^ 64) 0 ≡ clean_halves p high low
  unfolding clean_halves
  halves_high k n = rw (n, zero-mod, shift_zero high p (omega arith)) (sym (true_right (eqb (high % 2 ^ (64 - p)) 0)))

  pub halves_rest : 64 ≤ p → p < 128 → eqb ((low * 2 ^ (p - 64)) % 2 ^ 64) 0 ≡ clean_halves p high low
  unfolding clean_halves
  halves_rest k n = let z : 64 - p ≡ 0 = omega arith in rw (z, mod-one, shift_zero low (p - 64) (omega arith))

  pub halves_all : 128 ≤ p → true ≡ clean_halves p high low
  unfolding clean_halves
  halves_all k =
      let z : 64 - p ≡ 0 = omega arith in
      let y : 64 - (p - 64) ≡ 0 = omega arith in
      rw (z, y, mod-one high, mod-one low)

pub ruleset halving = (halves_low, halves_high, halves_rest, halves_all)

-- ---- the sixteen bytes at i

pub halves : (s : List ℕ) → ((i : ℕ) → Fits w8 (get_or s i 0)) → (i : ℕ) → i + 16 ≤ length s → (p : ℕ)
    → clean p (take 16 (drop i s)) ≡ clean_halves p (word_at s i) (word_at s (i + 8))
unfolding clean_halves
halves s o i h p =
    let l : length (take 8 (drop i s)) ≡ 8 = length-take-le 8 (drop i s) (simp length-drop (omega arith)) in
    rw (take-add 8 8 (drop i s), drop-drop 8 i s, clean_append (take 8 (drop i s)) (take 8 (drop (i + 8) s)) p, l, clean_word s o i (omega arith) p, clean_word s o (i + 8) (omega arith) (p - 64))

-- the address of an origin's body
pub address_is : (b : List ℕ) → ((i : ℕ) → Fits w8 (get_or b i 0)) → length b ≡ 23 → (p high low : ℕ) → high ≡ word_at b 1 → low ≡ word_at b 9
    → (r : Bool) → r ≡ clean_halves p high low → r ≡ clean p (address b)
address_is b o l p high low e f r q = q ∙ rw (e, f) (sym (halves b o 1 (omega arith) p))
