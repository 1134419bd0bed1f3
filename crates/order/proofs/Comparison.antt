-- Numbers, lists and byte strings are totally ordered.
use mathlib.Core.Path.{◌≡◌, refl, ap, ◌∙◌}
use mathlib.Core.List.{List, [], ◌∷◌}
use Prim.Native.Nat.{ℕ, ◌<◌}
use native.Mathlib.Omega.{arith}
use Rattle.std.proofs.lemmas.Cmp.{ranked, by_ranked, nat_cmp_total}
use Rattle.std.specs.Cmp.Lexicographic.{slice_cmp}
use Rattle.std.proofs.lemmas.Bool.Decides.{nat_tests}
use Rattle.std.specs.declared.cmp.Ordering.{Ordering}
use Rattle.std.specs.declared.cmp.Ordering.TheVariants.{Less, Equal, Greater}
use Rattle.order.specs.Comparison.{flip, or_else, number, lex, bytes, TotalOrder}
use Rattle.order.proofs.Never.{never}

-- two answers that differ: from them anything follows (where the goal is an equation `cc` finds it alone)
pub less≢equal : {X : Type 0} {o : Ordering} → o ≡ Less → o ≡ Equal → X
less≢equal p q = never cc

pub less≢greater : {X : Type 0} {o : Ordering} → o ≡ Less → o ≡ Greater → X
less≢greater p q = never cc

pub equal≢greater : {X : Type 0} {o : Ordering} → o ≡ Equal → o ≡ Greater → X
equal≢greater p q = never cc

-- the three answers of two numbers, by the order that omega knows
module _ (m n : ℕ) where
  pub number_less : m < n → number m n ≡ Less
  number_less h = grind (arith, nat_tests)

  pub number_equal : m ≡ n → number m n ≡ Equal
  number_equal h = grind (arith, nat_tests)

  pub number_greater : n < m → number m n ≡ Greater
  number_greater h = grind (arith, nat_tests)

  pub less_number : number m n ≡ Less → m < n
  less_number h = by_ranked _ _ _ (number m n) (ranked m n (number m n) refl) (λ e p. p) (λ e p. less≢equal h e) (λ e p. less≢greater h e)

  pub equal_number : number m n ≡ Equal → m ≡ n
  equal_number h = by_ranked _ _ _ (number m n) (ranked m n (number m n) refl) (λ e p. less≢equal e h) (λ e p. p) (λ e p. equal≢greater h e)

number_turn : (m n : ℕ) → number n m ≡ flip (number m n)
number_turn m n = nat_cmp_total.antisymm n m

pub numbers : TotalOrder number
numbers = record {
  self = λ n. number_equal n n refl;
  same = equal_number;
  turn = number_turn;
  trans = λ k m n p q. number_less k n (omega (arith, less_number k m p, less_number m n q));
}

module _ {A : Type 0} {cmp : A → A → Ordering} (O : TotalOrder cmp) where
  lex_self : (a : List A) → lex cmp a a ≡ Equal
  lex_self [] = refl
  lex_self (x ∷ a) = rw (O.self x) (lex_self a)

  lex_same : (a b : List A) → lex cmp a b ≡ Equal → a ≡ b
  lex_same [] [] e = refl
  lex_same [] (y ∷ b) e = cc
  lex_same (x ∷ a) [] e = cc
  lex_same (x ∷ a) (y ∷ b) e = go (cmp x y) refl e (lex_same a b)
    where
      go : (o : Ordering) → cmp x y ≡ o → or_else o (lex cmp a b) ≡ Equal → (lex cmp a b ≡ Equal → a ≡ b) → x ∷ a ≡ y ∷ b
      go Less c h ih = cc
      go Equal c h ih = cc (O.same x y c, ih h)
      go Greater c h ih = cc

  lex_turn : (a b : List A) → lex cmp b a ≡ flip (lex cmp a b)
  lex_turn [] [] = refl
  lex_turn [] (y ∷ b) = refl
  lex_turn (x ∷ a) [] = refl
  lex_turn (x ∷ a) (y ∷ b) = rw (O.turn x y, lex_turn a b) (go (cmp x y))
    where
      go : (o : Ordering) → or_else (flip o) (flip (lex cmp a b)) ≡ flip (or_else o (lex cmp a b))
      go Less = refl
      go Equal = refl
      go Greater = refl

  lex_trans : (a b c : List A) → lex cmp a b ≡ Less → lex cmp b c ≡ Less → lex cmp a c ≡ Less
  lex_trans [] [] c p q = cc
  lex_trans [] (y ∷ b) [] p q = cc
  lex_trans [] (y ∷ b) (z ∷ c) p q = refl
  lex_trans (x ∷ a) [] c p q = cc
  lex_trans (x ∷ a) (y ∷ b) [] p q = cc
  lex_trans (x ∷ a) (y ∷ b) (z ∷ c) p q = go (cmp x y) (cmp y z) refl refl p q (lex_trans a b c)
    where
      go : (o r : Ordering) → cmp x y ≡ o → cmp y z ≡ r → or_else o (lex cmp a b) ≡ Less → or_else r (lex cmp b c) ≡ Less →
          (lex cmp a b ≡ Less → lex cmp b c ≡ Less → lex cmp a c ≡ Less) → or_else (cmp x z) (lex cmp a c) ≡ Less
      go Less Less d e p q ih = cc (O.trans x y z d e)
      go Less Equal d e p q ih = cc (O.same y z e)
      go Less Greater d e p q ih = cc
      go Equal Less d e p q ih = cc (O.same x y d)
      go Equal Equal d e p q ih = cc (O.same x y d, ih p q)
      go Equal Greater d e p q ih = cc
      go Greater Less d e p q ih = cc
      go Greater Equal d e p q ih = cc
      go Greater Greater d e p q ih = cc

  -- lists over a totally ordered type are totally ordered
  pub lists : TotalOrder (lex cmp)
  lists = record { self = lex_self; same = lex_same; turn = lex_turn; trans = lex_trans }

-- std's order of slices is this one
pub lex_std : {A : Type 0} (cmp : A → A → Ordering) (a b : List A) → slice_cmp cmp a b ≡ lex cmp a b
lex_std cmp [] [] = refl
lex_std cmp [] (y ∷ b) = refl
lex_std cmp (x ∷ a) [] = refl
lex_std cmp (x ∷ a) (y ∷ b) = ap (λ r. or_else (cmp x y) r) (lex_std cmp a b)

-- byte strings are totally ordered
pub strings : TotalOrder bytes
strings = lists numbers

-- at most: not above
module _ {K : Type 0} {cmp : K → K → Ordering} (O : TotalOrder cmp) where
  abbrev pub AtMost : K → K → Type 0
  AtMost k l = ¬ (cmp k l ≡ Greater)

  pub at_most_self : (k : K) → AtMost k k
  at_most_self k e = equal≢greater (O.self k) e

  pub at_most_trans : (k l m : K) → AtMost k l → AtMost l m → AtMost k m
  at_most_trans k l m p q e = go (cmp l m) refl
    where
      mk : cmp m k ≡ Less
      mk = O.turn k m ∙ ap flip e

      go : (o : Ordering) → cmp l m ≡ o → ⊥
      go Less c = p (O.turn l k ∙ ap flip (O.trans l m k c mk))
      go Equal c = p (rw (O.same l m c) e)
      go Greater c = q c
