-- Laws of bytes repeated further up in a lent slice.
use Prim.Native.Nat.{ℕ, suc, ◌+◌, ◌-◌, ◌<◌, ◌≤◌}
use mathlib.Core.Path.{◌≡◌, refl, sym, ap, ◌∙◌}
use mathlib.Core.List.{[], ◌∷◌}
use native.Mathlib.Omega.{arith}
use mir.Syntax.{w8}
use mir.Val.{Fits}
use lib.ListN.{length, get_or, take, drop, set, length-set, length-drop}
use lib.Seq.{sets, length-sets, take-add, take-take, take-set-le, drop-drop, drop-cons, length-take-le}
use Rattle.number.specs.Number.{word_at, word_bytes}
use Rattle.number.proofs.Numbers.{bytes_of_word}
use Rattle.payload.specs.Content.{Bytes}
use Rattle.item.proofs.Sinking.{sets_append}
use Rattle.item.proofs.Places.{drop_take}
use Rattle.appliance.specs.Turn.{Apart}

-- what stands before a run of stores stays
pub take_sets : (vs o : Bytes) (i n : ℕ) → n ≤ i → take n (sets o i vs) ≡ take n o
take_sets [] o i n h = refl
take_sets (v ∷ vs) o i n h = take_sets vs (set o i v) (suc i) n (omega arith) ∙ take-set-le n o i v h

-- a part of what is the same
pub part_same : (o p : Bytes) (i a m : ℕ) → take i o ≡ take i p → a + m ≤ i → take m (drop a o) ≡ take m (drop a p)
part_same o p i a m e h = sym (cut o) ∙ ap (drop a) (front o ∙ ap (take (a + m)) e ∙ sym (front p)) ∙ cut p
  where
    cut : (l : Bytes) → drop a (take (a + m) l) ≡ take m (drop a l)
    cut l = let z : a + m - a ≡ m = omega arith in drop_take a (a + m) l ∙ rw z

    front : (l : Bytes) → take (a + m) l ≡ take (a + m) (take i l)
    front l = sym (take-take (a + m) i l h)

-- ---- repeat_eight

module _ (o : Bytes) (from i : ℕ) (h : Apart o from i 8) where
  pub eight_from : from + 8 ≤ length o
  eight_from = omega (arith, h.below, h.room)

  pub eight_to : i + 8 ≤ length o
  eight_to = h.room

  pub eight_is : ((j : ℕ) → Fits w8 (get_or o j 0)) → (w : ℕ) → w ≡ word_at o from → (p : Bytes) → p ≡ sets o i (word_bytes w) → p ≡ sets o i (take 8 (drop from o))
  eight_is b w e p q = q ∙ ap (sets o i) (ap word_bytes e ∙ bytes_of_word o b from eight_from)

pub ruleset eight = (eight_from, eight_to, eight_is)

-- ---- repeat_eights, repeat_bytes: the first k of the n bytes are repeated

pub record Repeated (o₀ : Bytes) (from i n : ℕ) (o : Bytes) (k : ℕ) : Type 0 where
  pub below : from + n ≤ i
  pub room : i + n ≤ length o₀
  pub passed : k ≤ n
  pub len : length o ≡ length o₀
  pub is : o ≡ sets o₀ i (take k (drop from o₀))

pub repeated_start : (o : Bytes) (from i n : ℕ) → Apart o from i n → Repeated o from i n o 0
repeated_start o from i n h = record { below = h.below; room = h.room; passed = omega arith; len = refl; is = refl }

module _ (o₀ : Bytes) (from i n : ℕ) (o : Bytes) (k : ℕ) (l : Repeated o₀ from i n o k) where
  pub repeated_passed : k ≤ n
  repeated_passed = l.passed

  pub repeated_is : o ≡ sets o₀ i (take k (drop from o₀))
  repeated_is = l.is

  front : take i o ≡ take i o₀
  front = ap (take i) l.is ∙ take_sets (take k (drop from o₀)) o₀ i i (omega arith)

  -- m bytes more
  more : (m : ℕ) → k + m ≤ n → sets o (i + k) (take m (drop (from + k) o)) ≡ sets o₀ i (take (k + m) (drop from o₀))
  more m h =
      let t : length (take k (drop from o₀)) ≡ k = length-take-le k (drop from o₀) (simp length-drop (omega (arith, l.below, l.room))) in
      let p = part_same o o₀ i (from + k) m front (omega (arith, l.below)) in
      rw (p, l.is, take-add k m (drop from o₀), drop-drop k from o₀, sets_append (take k (drop from o₀)) (take m (drop (from + k) o₀)) o₀ i, t)

  module _ (h : 8 ≤ n - k) where
    pub eight_apart : Apart o (from + k) (i + k) 8
    eight_apart = record { below = omega (arith, l.below, l.passed); room = omega (arith, l.room, l.passed, l.len) }

    pub eight_more : (p : Bytes) → p ≡ sets o (i + k) (take 8 (drop (from + k) o)) → Repeated o₀ from i n p (k + 8)
    eight_more p q = record {
      below = l.below;
      room = l.room;
      passed = omega (arith, l.passed);
      len = ap length q ∙ length-sets o (i + k) (take 8 (drop (from + k) o)) ∙ l.len;
      is = q ∙ more 8 (omega (arith, l.passed));
    }

  module _ (h : k < n) where
    pub one_to : i + k < length o
    one_to = omega (arith, l.room, l.len)

    pub one_from : from + k < length o
    one_from = omega (arith, l.below, l.room, l.len)

    pub one_more_lem : Repeated o₀ from i n (set o (i + k) (get_or o (from + k) 0)) (k + 1)
    one_more_lem =
        let u : take 1 (drop (from + k) o) ≡ get_or o (from + k) 0 ∷ [] = rw (drop-cons o (from + k) 0 one_from) in
        record { below = l.below; room = l.room; passed = omega arith; len = length-set o (i + k) (get_or o (from + k) 0) ∙ l.len; is = rw u at (more 1 (omega arith)) }

  pub repeated_all : n ≤ k → o ≡ sets o₀ i (take n (drop from o₀))
  repeated_all h = let e : k ≡ n = omega (arith, l.passed) in rw e at l.is

pub ruleset repeating = (repeated_start, repeated_passed, repeated_is, repeated_all, eight_apart, eight_more, one_to, one_from, one_more_lem)

-- ---- repeat

module _ (o : Bytes) (from i n : ℕ) (h : Apart o from i n) (k : ℕ) (l : k ≤ n) (q : Bytes) (e : q ≡ sets o i (take k (drop from o))) where
  begun : Repeated o from i n q k
  begun = record { below = h.below; room = h.room; passed = l; len = ap length e ∙ length-sets o i (take k (drop from o)); is = e }

  pub rest_apart : Apart q (from + k) (i + k) (n - k)
  rest_apart = record { below = omega (arith, h.below); room = omega (arith, h.room, begun.len) }

  pub rest_is : (r : Bytes) → r ≡ sets q (i + k) (take (n - k) (drop (from + k) q)) → r ≡ sets o i (take n (drop from o))
  rest_is r f = let z : k + (n - k) ≡ n = omega arith in f ∙ (rw z at (more o from i n q k begun (n - k) (omega arith)))

pub ruleset parts = (rest_apart, rest_is)
