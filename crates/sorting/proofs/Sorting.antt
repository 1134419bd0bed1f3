-- Lists of offsets in message order.
use Prim.Native.Nat.{ℕ, zero, suc, ◌+◌, ◌<◌}
use mathlib.Core.Path.{◌≡◌, refl, sym, ap, subst, ◌∙◌}
use mathlib.Core.List.{List, [], ◌∷◌, ◌++◌}
use mathlib.Core.Bool.{Bool, true, false, cond}
use native.Mathlib.Omega.{arith}
use native.Mathlib.Decide.{ℕ_discrete}
use lib.ListN.{length, get_or, set}
use Rattle.payload.specs.Content.{Bytes}
use Rattle.heard.specs.Place.{precedes}
use Rattle.sorting.specs.Sorted.{insert, sorted}
use Rattle.sorting.proofs.Precede.{true≢false, never_self, same_place, precede_trans, precede_turn, not_above_trans}

-- ---- what holds for each of a list

pub data All (P : ℕ → Type 0) : List ℕ → Type 0 where
  nil : All P []
  cons : {x : ℕ} {xs : List ℕ} → P x → All P xs → All P (x ∷ xs)

module _ {P : ℕ → Type 0} where
  pub all_at : {l : List ℕ} → All P l → (k : ℕ) → k < length l → P (get_or l k 0)
  all_at nil k h = absurd (omega arith)
  all_at (cons p a) zero h = p
  all_at (cons p a) (suc k) h = all_at a k (omega arith)

  pub all_by : (l : List ℕ) → ((k : ℕ) → k < length l → P (get_or l k 0)) → All P l
  all_by [] f = nil
  all_by (x ∷ l) f = cons (f 0 (omega arith)) (all_by l (λ k h. f (suc k) (omega arith)))

  pub all_insert : (s : Bytes) (x : ℕ) {l : List ℕ} → P x → All P l → All P (insert s x l)
  unfolding insert
  all_insert s x p nil = cons p nil
  all_insert s x p (cons {x = y} {xs = ys} a b) = go (precedes s x y) (all_insert s x p b)
    where
      go : (c : Bool) → All P (insert s x ys) → All P (cond c (x ∷ y ∷ ys) (y ∷ insert s x ys))
      go true r = cons p (cons a b)
      go false r = cons a r

  pub all_sorted : (s : Bytes) {l : List ℕ} → All P l → All P (sorted s l)
  unfolding sorted
  all_sorted s nil = nil
  all_sorted s (cons {x} a b) = all_insert s x a (all_sorted s b)

  pub all_both : {l m : List ℕ} → All P l → All P m → All P (l ++ m)
  all_both nil b = b
  all_both (cons p a) b = cons p (all_both a b)

  pub all_first : (l m : List ℕ) → All P (l ++ m) → All P l
  all_first [] m a = nil
  all_first (x ∷ l) m (cons p a) = cons p (all_first l m a)

pub all_weak : {P Q : ℕ → Type 0} → ((x : ℕ) → P x → Q x) → {l : List ℕ} → All P l → All Q l
all_weak f nil = nil
all_weak f (cons {x} a b) = cons (f x a) (all_weak f b)

-- ---- putting in

module _ (s : Bytes) where
  pub insert_before : (x y : ℕ) (ys : List ℕ) → precedes s x y ≡ true → insert s x (y ∷ ys) ≡ x ∷ y ∷ ys
  unfolding insert
  insert_before x y ys e = rw e

  pub insert_behind : (x y : ℕ) (ys : List ℕ) → precedes s x y ≡ false → insert s x (y ∷ ys) ≡ y ∷ insert s x ys
  unfolding insert
  insert_behind x y ys e = rw e

  pub insert_none : (x : ℕ) → insert s x [] ≡ x ∷ []
  unfolding insert
  insert_none x = refl

  -- of two, x before y
  insert_two : (x y : ℕ) → precedes s x y ≡ true → (l : List ℕ) → insert s x (insert s y l) ≡ insert s y (insert s x l)
  insert_two x y e [] = rw (insert_none y, insert_none x, insert_before x y [] e, insert_behind y x [] (precede_turn s x y e), insert_none y)
  insert_two x y e (z ∷ l) = go (precedes s x z) (precedes s y z) refl refl (insert_two x y e l)
    where
      go : (a b : Bool) → precedes s x z ≡ a → precedes s y z ≡ b → insert s x (insert s y l) ≡ insert s y (insert s x l) →
          insert s x (insert s y (z ∷ l)) ≡ insert s y (insert s x (z ∷ l))
      go true true p q ih = rw (insert_before y z l q, insert_before x z l p, insert_before x y (z ∷ l) e, insert_behind y x (z ∷ l) (precede_turn s x y e), insert_before y z l q)
      go true false p q ih = rw (insert_behind y z l q, insert_before x z l p, insert_before x z (insert s y l) p, insert_behind y x (z ∷ l) (precede_turn s x y e), insert_behind y z l q)
      go false true p q ih = true≢false (precede_trans s x y z e q) p
      go false false p q ih = rw (insert_behind y z l q, insert_behind x z l p, insert_behind x z (insert s y l) p, insert_behind y z (insert s x l) q, ih)

  pub insert_comm : (x y : ℕ) (l : List ℕ) → insert s x (insert s y l) ≡ insert s y (insert s x l)
  insert_comm x y l = go (precedes s x y) (precedes s y x) refl refl
    where
      go : (a b : Bool) → precedes s x y ≡ a → precedes s y x ≡ b → insert s x (insert s y l) ≡ insert s y (insert s x l)
      go true b p q = insert_two x y p l
      go false true p q = sym (insert_two y x q l)
      go false false p q = rw (same_place s x y p q)

  -- where nothing precedes it, it goes first
  pub insert_least : (x : ℕ) {l : List ℕ} → All (λ (y : ℕ). precedes s y x ≡ false) l → insert s x l ≡ x ∷ l
  unfolding insert
  insert_least x nil = refl
  insert_least x (cons {x = y} {xs = ys} a b) = go (precedes s x y) refl (insert_least x b)
    where
      go : (c : Bool) → precedes s x y ≡ c → insert s x ys ≡ x ∷ ys → insert s x (y ∷ ys) ≡ x ∷ y ∷ ys
      go true e ih = insert_before x y ys e
      go false e ih = let z : x ≡ y = same_place s x y e a in rw (insert_behind x y ys e, ih, z)

  pub length_insert : (x : ℕ) (l : List ℕ) → length (insert s x l) ≡ suc (length l)
  unfolding insert
  length_insert x [] = refl
  length_insert x (y ∷ l) = go (precedes s x y) (length_insert x l)
    where
      go : (c : Bool) → length (insert s x l) ≡ suc (length l) → length (cond c (x ∷ y ∷ l) (y ∷ insert s x l)) ≡ suc (suc (length l))
      go true ih = refl
      go false ih = ap suc ih

  pub length_sorted : (l : List ℕ) → length (sorted s l) ≡ length l
  unfolding sorted
  length_sorted [] = refl
  length_sorted (x ∷ l) = length_insert x (sorted s l) ∙ ap suc (length_sorted l)

  -- ---- the order in which they are put in does not matter

  -- one more, wherever it stands
  pub sorted_mid : (u v : List ℕ) (x : ℕ) → sorted s (u ++ (x ∷ v)) ≡ insert s x (sorted s (u ++ v))
  unfolding insert sorted
  sorted_mid [] v x = refl
  sorted_mid (y ∷ u) v x = ap (insert s y) (sorted_mid u v x) ∙ insert_comm y x (sorted s (u ++ v))

  pub sorted_set : (l : List ℕ) (i v : ℕ) → i < length l → insert s (get_or l i 0) (sorted s (set l i v)) ≡ insert s v (sorted s l)
  unfolding sorted
  sorted_set [] i v h = absurd (omega arith)
  sorted_set (x ∷ l) zero v h = insert_comm x v (sorted s l)
  sorted_set (x ∷ l) (suc i) v h =
      insert_comm (get_or l i 0) x (sorted s (set l i v)) ∙ ap (insert s x) (sorted_set l i v (omega arith)) ∙ insert_comm x v (sorted s l)

  pub sorted_swap : (l : List ℕ) (i j : ℕ) → i < length l → j < length l → sorted s (set (set l i (get_or l j 0)) j (get_or l i 0)) ≡ sorted s l
  unfolding sorted
  sorted_swap [] i j h k = absurd (omega arith)
  sorted_swap (x ∷ l) zero zero h k = refl
  sorted_swap (x ∷ l) zero (suc j) h k = sorted_set l j x (omega arith)
  sorted_swap (x ∷ l) (suc i) zero h k = sorted_set l i x (omega arith)
  sorted_swap (x ∷ l) (suc i) (suc j) h k = ap (insert s x) (sorted_swap l i j (omega arith) (omega arith))

  sorted_put : (x : ℕ) (l m : List ℕ) → sorted s (insert s x l ++ m) ≡ insert s x (sorted s (l ++ m))
  unfolding insert sorted
  sorted_put x [] m = refl
  sorted_put x (y ∷ l) m = go (precedes s x y) (sorted_put x l m)
    where
      go : (c : Bool) → sorted s (insert s x l ++ m) ≡ insert s x (sorted s (l ++ m)) →
          sorted s (cond c (x ∷ y ∷ l) (y ∷ insert s x l) ++ m) ≡ insert s x (insert s y (sorted s (l ++ m)))
      go true ih = refl
      go false ih = ap (insert s y) ih ∙ insert_comm y x (sorted s (l ++ m))

  -- a first part may be sorted before
  pub sorted_first : (l m : List ℕ) → sorted s (sorted s l ++ m) ≡ sorted s (l ++ m)
  unfolding sorted
  sorted_first [] m = refl
  sorted_first (x ∷ l) m = sorted_put x (sorted s l) m ∙ ap (insert s x) (sorted_first l m)

  -- and what is behind may be put in another order
  pub sorted_behind : (l m n : List ℕ) → sorted s m ≡ sorted s n → sorted s (l ++ m) ≡ sorted s (l ++ n)
  unfolding sorted
  sorted_behind [] m n e = e
  sorted_behind (x ∷ l) m n e = ap (insert s x) (sorted_behind l m n e)

  pub sorted_pass : (x : ℕ) (l m : List ℕ) → sorted s (l ++ x ∷ m) ≡ sorted s (x ∷ (l ++ m))
  unfolding sorted
  sorted_pass x [] m = refl
  sorted_pass x (y ∷ l) m = ap (insert s y) (sorted_pass x l m) ∙ insert_comm y x (sorted s (l ++ m))

  -- ---- lists in message order, with or without equals

  pub data Climbing : List ℕ → Type 0 where
    flat : Climbing []
    up : {x : ℕ} {xs : List ℕ} → All (λ (y : ℕ). precedes s y x ≡ false) xs → Climbing xs → Climbing (x ∷ xs)

  pub climbing_by : (l : List ℕ) → ((a b : ℕ) → a < b → b < length l → precedes s (get_or l b 0) (get_or l a 0) ≡ false) → Climbing l
  climbing_by [] f = flat
  climbing_by (x ∷ l) f =
      up (all_by l (λ k h. f 0 (suc k) (omega arith) (omega arith))) (climbing_by l (λ a b h k. f (suc a) (suc b) (omega arith) (omega arith)))

  pub climbing_at : {l : List ℕ} → Climbing l → (a b : ℕ) → a < b → b < length l → precedes s (get_or l b 0) (get_or l a 0) ≡ false
  climbing_at flat a b h k = absurd (omega arith)
  climbing_at (up c d) a zero h k = absurd (omega arith)
  climbing_at (up c d) zero (suc b) h k = all_at c b (omega arith)
  climbing_at (up c d) (suc a) (suc b) h k = climbing_at d a b (omega arith) (omega arith)

  climbing_insert : (x : ℕ) {l : List ℕ} → Climbing l → Climbing (insert s x l)
  unfolding insert
  climbing_insert x flat = up nil flat
  climbing_insert x (up {x = y} {xs = ys} a b) = go (precedes s x y) refl (climbing_insert x b)
    where
      go : (c : Bool) → precedes s x y ≡ c → Climbing (insert s x ys) → Climbing (cond c (x ∷ y ∷ ys) (y ∷ insert s x ys))
      go true e r = let t = precede_turn s x y e in up (cons t (all_weak (λ z q. not_above_trans s x y z t q) a)) (up a b)
      go false e r = up (all_insert s x e a) r

  pub climbing_sorted : (l : List ℕ) → Climbing (sorted s l)
  unfolding sorted
  climbing_sorted [] = flat
  climbing_sorted (x ∷ l) = climbing_insert x (climbing_sorted l)

  pub sorted_fixed : {l : List ℕ} → Climbing l → sorted s l ≡ l
  unfolding sorted
  sorted_fixed flat = refl
  sorted_fixed (up {x} {xs} a b) = ap (insert s x) (sorted_fixed b) ∙ insert_least x a

  pub climbing_of : (l : List ℕ) → sorted s l ≡ l → Climbing l
  climbing_of l e = subst Climbing e (climbing_sorted l)

  -- none behind y, then y and what follows it
  pub climbing_join : {l : List ℕ} {y : ℕ} {m : List ℕ} → Climbing l → All (λ (x : ℕ). precedes s y x ≡ false) l → Climbing (y ∷ m) → Climbing (l ++ y ∷ m)
  climbing_join flat nil c = c
  climbing_join {y} (up {x} {xs} a b) (cons p q) (up c d) = up (all_both a (cons p (all_weak (λ z r. not_above_trans s x y z p r) c))) (climbing_join b q (up c d))

  pub climbing_first : (l m : List ℕ) → Climbing (l ++ m) → Climbing l
  climbing_first [] m c = flat
  climbing_first (x ∷ l) m (up a b) = up (all_first l m a) (climbing_first l m b)

  pub climbing_last : (l m : List ℕ) → Climbing (l ++ m) → Climbing m
  climbing_last [] m c = c
  climbing_last (x ∷ l) m (up a b) = climbing_last l m b

  -- what is not before the last is before none
  pub behind_last : (l : List ℕ) (k y : ℕ) → Climbing l → length l ≡ k + 1 → precedes s y (get_or l k 0) ≡ false → All (λ (x : ℕ). precedes s y x ≡ false) l
  behind_last l k y c e p = all_by l (λ i h. not_above_trans s (get_or l i 0) (get_or l k 0) y (go i h (ℕ_discrete i k)) p)
    where
      go : (i : ℕ) → i < length l → Dec (i ≡ k) → precedes s (get_or l k 0) (get_or l i 0) ≡ false
      go i h (yes d) = rw d (never_self s (get_or l k 0))
      go i h (no d) = climbing_at c i k (omega arith) (omega arith)
