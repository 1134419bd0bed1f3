-- The place of a key, and the comparison of two keys.
use Prim.Native.Nat.{ℕ, ◌+◌, ◌-◌, ◌<◌, ◌≤◌, min}
use mathlib.Core.Path.{◌≡◌, refl, ap, sym, ◌∙◌}
use mathlib.Core.List.{List, [], ◌∷◌}
use mathlib.Core.Bool.{Bool, true, false, cond}
use native.Mathlib.Decide.{dec_le}
use native.Mathlib.Omega.{arith}
use borrow.Author.Tests.{eq-eqb, ne_eqb}
use lib.Dec.{eqb}
use lib.ListN.{length, take, drop, length-take, length-drop, drop_of_length-le}
use lib.Seq.{take-take, take_all}
use Rattle.std.specs.declared.cmp.Ordering.{Ordering}
use Rattle.std.specs.declared.cmp.Ordering.TheVariants.{Less, Greater}
use Rattle.order.specs.Comparison.{bytes}
use Rattle.order.proofs.Comparison.{number_less, number_equal, number_greater}
use Rattle.number.specs.Bytes.{part}
use Rattle.field.specs.declared.key.Key.{Key}
use Rattle.field.specs.Key.{key_of}
use Rattle.field.specs.Places.{KeyFits, key_in, key_place}

-- ---- key_at

module _ (kind from to : ℕ) where
  ends : (n : ℕ) → n ≡ cond (eqb kind 3) (min (from + 4) to) to → record { kind = kind; from = from; to = n } ≡ key_place kind from to
  ends n d = λ i. record { kind = kind; from = from; to = d i }

  pub place_long : kind ≡ 3 → 4 < to - from → record { kind = kind; from = from; to = from + 4 } ≡ key_place kind from to
  place_long e h = ends (from + 4) (rw (eq-eqb kind 3 e) (omega arith))

  pub place_short : kind ≡ 3 → from < to → to - from ≤ 4 → record { kind = kind; from = from; to = to } ≡ key_place kind from to
  place_short e k h = ends to (rw (eq-eqb kind 3 e) (omega arith))

  pub place_none : kind ≡ 3 → to ≤ from → record { kind = kind; from = from; to = to } ≡ key_place kind from to
  place_none e k = ends to (rw (eq-eqb kind 3 e) (omega arith))

  pub place_other : (kind ≡ 3 → ⊥) → record { kind = kind; from = from; to = to } ≡ key_place kind from to
  place_other n = ends to (rw (ne_eqb kind 3 n))

-- ---- what its place is

module _ (s : List ℕ) (kind from to : ℕ) (o : from ≤ to) (w : to ≤ length s) where
  bounds : (b : Bool) → (from ≤ cond b (min (from + 4) to) to) × (cond b (min (from + 4) to) to ≤ length s)
  bounds true = omega arith
  bounds false = omega arith

  four : part s from (min (from + 4) to) ≡ take 4 (part s from to)
  four =
      elim (dec_le 4 (to - from)) [
        | yes h ↦ let d : min (from + 4) to - from ≡ 4 = omega arith in rw (d, take-take 4 (to - from) (drop from s) h)
        | no h ↦ let d : min (from + 4) to - from ≡ to - from = omega arith in
            rw d (sym (take_all 4 (take (to - from) (drop from s)) (simp length-take (omega arith))))
      ]

  cut_to : (b : Bool) → part s from (cond b (min (from + 4) to) to) ≡ cond b (take 4 (part s from to)) (part s from to)
  cut_to true = four
  cut_to false = refl

  module _ (k : Key) (e : k ≡ key_place kind from to) where
    -- it lies in the bytes
    pub key_fits : KeyFits s k
    key_fits = rw e (record { ordered = (bounds (eqb kind 3)).0; within = (bounds (eqb kind 3)).1 })

    -- it stands for the key of the body
    pub key_in_lem : key_in s k ≡ key_of kind (part s from to)
    unfolding key_of
    key_in_lem = rw e (ap (λ (l : List ℕ). kind ∷ l) (cut_to (eqb kind 3)))

-- ---- key_compare: the kinds decide, or else the bytes that lie within

-- a place and what of it lies within stand for the same bytes
within : (s : List ℕ) (from to f t : ℕ) → t ≡ min to (length s) → f ≡ min from t → part s f t ≡ part s from to
within s from to f t p q =
    elim (dec_le from t) [
      | yes h ↦ let e : f ≡ from = omega arith in
          elim (dec_le to (length s)) [
            | yes k ↦ let d : t ≡ to = omega arith in rw (e, d)
            | no k ↦ let d : t ≡ length s = omega arith in
                rw (e, d)
                (take_all (length s - from) (drop from s) (simp length-drop (omega arith))
                ∙ sym (take_all (to - from) (drop from s) (simp length-drop (omega arith))))
          ]
      | no h ↦ let e : t - f ≡ 0 = omega arith in
          elim (dec_le to (length s)) [
            | yes k ↦ let d : to - from ≡ 0 = omega arith in rw (e, d)
            | no k ↦ let d : drop from s ≡ [] = drop_of_length-le s {i = from} (omega arith) in
                rw e (sym (take_all (to - from) (drop from s) (simp length-drop (omega arith)) ∙ d))
          ]
    ]

module _ (a b : List ℕ) (x y : Key) where
  pub kinds_less : x.kind < y.kind → Less ≡ bytes (key_in a x) (key_in b y)
  kinds_less h = rw (number_less x.kind y.kind h)

  pub kinds_greater : y.kind < x.kind → Greater ≡ bytes (key_in a x) (key_in b y)
  kinds_greater h = rw (number_greater x.kind y.kind h)

  pub kinds_same : (r : Ordering) (f t g u : ℕ) → y.kind ≤ x.kind → x.kind ≤ y.kind → t ≡ min x.to (length a) → f ≡ min x.from t
      → u ≡ min y.to (length b) → g ≡ min y.from u → r ≡ bytes (part a f t) (part b g u) → r ≡ bytes (key_in a x) (key_in b y)
  kinds_same r f t g u h k p q m n e =
      rw (number_equal x.kind y.kind (omega arith), e, within a x.from x.to f t p q, within b y.from y.to g u m n)

pub ruleset keys = (place_long, place_short, place_none, place_other, kinds_less, kinds_greater, kinds_same)
