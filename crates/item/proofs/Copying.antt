-- Laws of copying into a lent slice.
use Prim.Native.Nat.{ℕ, suc, ◌+◌, ◌-◌, ◌/◌, ◌%◌, ◌<◌, ◌≤◌, min}
use mathlib.Core.Path.{◌≡◌, refl, sym, ap, ◌∙◌}
use mathlib.Core.List.{[], ◌∷◌}
use native.Mathlib.Decide.{dec_le}
use native.Mathlib.Omega.{arith}
use mir.Syntax.{w8, w64}
use mir.Val.{Fits}
use lib.ListN.{length, get_or, take, drop, set, length-set, length-drop}
use lib.Seq.{sets, length-sets, take-add, drop-drop, drop-cons, length-take-le}
use Rattle.number.specs.Number.{word_at, two_bytes, four_bytes, word_bytes}
use Rattle.number.proofs.Numbers.{bytes_of_word}
use Rattle.payload.specs.Content.{Bytes}
use Rattle.item.specs.declared.place.Part.{Part}
use Rattle.item.specs.Place.{part_in, Lies}
use Rattle.item.specs.Copy.{Spans}
use Rattle.item.proofs.Sinking.{sets_out, sets_append}

-- ---- store_two, store_four, store_word

pub within_set : (o p : Bytes) (i j x : ℕ) → p ≡ set o i x → j < length o → j < length p
within_set o p i j x e h = rw (e, length-set o i x) h

pub two_stored : (o p q : Bytes) (i n : ℕ) → p ≡ set o i (n / 256) → q ≡ set p (i + 1) (n % 256) → q ≡ sets o i (two_bytes n)
unfolding two_bytes
two_stored o p q i n d e = let j : i + 1 ≡ suc i = omega arith in cc

pub top_fits : (n : ℕ) → n < 65_536 → Fits w8 (n / 256)
top_fits n h = record { fits = omega arith }

pub ruleset pairs = (within_set, two_stored, top_fits)

-- two halves, one behind the other
module _ (o p : Bytes) (i x : ℕ) where
  pub two_room : p ≡ sets o i (two_bytes x) → i + 4 ≤ length o → i + 2 + 2 ≤ length p
  two_room e h = rw (e, length-sets o i (two_bytes x)) (omega arith)

  pub four_room : p ≡ sets o i (four_bytes x) → i + 8 ≤ length o → i + 4 + 4 ≤ length p
  four_room e h = rw (e, length-sets o i (four_bytes x)) (omega arith)

module _ (o p : Bytes) (i w : ℕ) (q : Bytes) where
  pub four_stored : p ≡ sets o i (two_bytes (w / 65_536)) → q ≡ sets p (i + 2) (two_bytes (w % 65_536)) → q ≡ sets o i (four_bytes w)
  unfolding two_bytes four_bytes
  four_stored e f = f ∙ rw e (sym (sets_append (two_bytes (w / 65_536)) (two_bytes (w % 65_536)) o i))

  pub word_stored : p ≡ sets o i (four_bytes (w / 4_294_967_296)) → q ≡ sets p (i + 4) (four_bytes (w % 4_294_967_296)) → q ≡ sets o i (word_bytes w)
  unfolding two_bytes four_bytes word_bytes
  word_stored e f = f ∙ rw e (sym (sets_append (four_bytes (w / 4_294_967_296)) (four_bytes (w % 4_294_967_296)) o i))

pub high_two : (n : ℕ) → n < 4_294_967_296 → n / 65_536 < 65_536
high_two n h = omega arith

pub high_four : (w : ℕ) → Fits w64 w → w / 4_294_967_296 < 4_294_967_296
high_four w f = omega (arith, f.fits)

pub ruleset halves = (two_room, four_room, four_stored, word_stored, high_two, high_four)

-- ---- copy_eight

module _ (s : Bytes) (from : ℕ) (o : Bytes) (i : ℕ) (h : Spans s from o i 8) where
  pub eight_room : i + 8 ≤ length o
  eight_room = h.room

  pub eight_lie : from + 8 ≤ length s
  eight_lie = h.lie

  pub eight_is : ((j : ℕ) → Fits w8 (get_or s j 0)) → (w : ℕ) → w ≡ word_at s from → (p : Bytes) → p ≡ sets o i (word_bytes w) → p ≡ sets o i (take 8 (drop from s))
  eight_is b w e p q = q ∙ ap (sets o i) (ap word_bytes e ∙ bytes_of_word s b from h.lie)

pub ruleset eight = (eight_room, eight_lie, eight_is)

-- ---- copy_eights, copy_bytes: the first k of the n bytes are copied

pub record Copied (s o₀ : Bytes) (from i n : ℕ) (o : Bytes) (k : ℕ) : Type 0 where
  pub lie : from + n ≤ length s
  pub room : i + n ≤ length o₀
  pub passed : k ≤ n
  pub len : length o ≡ length o₀
  pub is : o ≡ sets o₀ i (take k (drop from s))

pub copied_start : (s o : Bytes) (from i n : ℕ) → Spans s from o i n → Copied s o from i n o 0
copied_start s o from i n h = record { lie = h.lie; room = h.room; passed = omega arith; len = refl; is = refl }

module _ (s o₀ : Bytes) (from i n : ℕ) (o : Bytes) (k : ℕ) (l : Copied s o₀ from i n o k) where
  pub copied_passed : k ≤ n
  copied_passed = l.passed

  pub copied_is : o ≡ sets o₀ i (take k (drop from s))
  copied_is = l.is

  -- m bytes more
  more : (m : ℕ) → k + m ≤ n → sets o (i + k) (take m (drop (from + k) s)) ≡ sets o₀ i (take (k + m) (drop from s))
  more m h =
      let t : length (take k (drop from s)) ≡ k = length-take-le k (drop from s) (simp length-drop (omega (arith, l.lie))) in
      rw (l.is, take-add k m (drop from s), drop-drop k from s, sets_append (take k (drop from s)) (take m (drop (from + k) s)) o₀ i, t)

  module _ (h : 8 ≤ n - k) where
    pub eight_spans : Spans s (from + k) o (i + k) 8
    eight_spans = record { lie = omega (arith, l.lie, l.passed); room = omega (arith, l.room, l.passed, l.len) }

    pub eight_more : (p : Bytes) → p ≡ sets o (i + k) (take 8 (drop (from + k) s)) → Copied s o₀ from i n p (k + 8)
    eight_more p q =
        record { lie = l.lie; room = l.room; passed = omega (arith, l.passed); len = ap length q ∙ length-sets o (i + k) (take 8 (drop (from + k) s)) ∙ l.len; is = q ∙ more 8 (omega (arith, l.passed)) }

  module _ (h : k < n) where
    pub one_in : i + k < length o
    one_in = omega (arith, l.room, l.len)

    pub one_from : from + k < length s
    one_from = omega (arith, l.lie)

    pub one_more_lem : Copied s o₀ from i n (set o (i + k) (get_or s (from + k) 0)) (k + 1)
    one_more_lem =
        let u : take 1 (drop (from + k) s) ≡ get_or s (from + k) 0 ∷ [] = rw (drop-cons s (from + k) 0 one_from) in
        record { lie = l.lie; room = l.room; passed = omega arith; len = length-set o (i + k) (get_or s (from + k) 0) ∙ l.len; is = rw u at (more 1 (omega arith)) }

  pub copied_all : n ≤ k → o ≡ sets o₀ i (take n (drop from s))
  copied_all h = let e : k ≡ n = omega (arith, l.passed) in rw e at l.is

pub ruleset copying = (copied_start, copied_passed, copied_is, copied_all, eight_spans, eight_more, one_in, one_from, one_more_lem)

-- ---- copy

module _ (s : Bytes) (p : Part) (o : Bytes) (i : ℕ) where
  pub copy_none : length o ≤ i → o ≡ sets o i (part_in s p)
  copy_none h = sym (sets_out (part_in s p) o i h)

  module _ (h : Lies s p) (g : i < length o) (n : ℕ) (m : n ≡ min (p.to - p.from) (length o - i)) where
    pub copy_spans : Spans s p.from o i n
    copy_spans = record { lie = omega (arith, h.ordered, h.within); room = omega arith }

    module _ (k : ℕ) (l : k ≤ n) (q : Bytes) (e : q ≡ sets o i (take k (drop p.from s))) where
      q_length : length q ≡ length o
      q_length = ap length e ∙ length-sets o i (take k (drop p.from s))

      pub rest_spans : Spans s (p.from + k) q (i + k) (n - k)
      rest_spans = record { lie = omega (arith, copy_spans.lie); room = omega (arith, copy_spans.room, q_length) }

      pub copy_rest : (r : Bytes) → r ≡ sets q (i + k) (take (n - k) (drop (p.from + k) s)) → r ≡ sets o i (part_in s p)
      copy_rest r f =
          let c : Copied s o p.from i n q k = record { lie = copy_spans.lie; room = copy_spans.room; passed = l; len = q_length; is = e } in
          let z : k + (n - k) ≡ n = omega arith in
          f ∙ (rw z at (more s o p.from i n q k c (n - k) (omega arith))) ∙ cut
        where
          cut : sets o i (take n (drop p.from s)) ≡ sets o i (part_in s p)
          cut =
              elim (dec_le (p.to - p.from) (length o - i)) [
                | yes y ↦ let w : n ≡ p.to - p.from = omega arith in rw w
                | no y ↦
                    let w : n ≡ length o - i = omega arith in
                    let u : n + (p.to - p.from - n) ≡ p.to - p.from = omega arith in
                    let t : length (take n (drop p.from s)) ≡ n = length-take-le n (drop p.from s) (simp length-drop (omega (arith, h.ordered, h.within))) in
                    sym (ap (λ (x : ℕ). sets o i (take x (drop p.from s))) (sym u)
                    ∙ rw (take-add n (p.to - p.from - n) (drop p.from s), sets_append (take n (drop p.from s)) (take (p.to - p.from - n) (drop n (drop p.from s))) o i, t)
                    (sets_out (take (p.to - p.from - n) (drop n (drop p.from s))) (sets o i (take n (drop p.from s))) (i + n) (rw (length-sets o i (take n (drop p.from s))) (omega arith))))
              ]

pub ruleset parts = (copy_none, copy_spans, rest_spans, copy_rest)
