-- Lists of offsets in message order: a part of one, and those without equals.
use Rattle.std.proofs.Common.{◌≡◌, ℕ, zero, suc, ◌<◌, ◌≤◌, Bool, true, false, cond, not, List, [], ◌∷◌, length, get_or, take, sym, refl, ap, ◌∙◌, arith}
use Rattle.payload.specs.Content.{Bytes}
use Rattle.heard.specs.Place.{precedes}
use Rattle.sorting.specs.Sorted.{insert, sorted}
use Rattle.sorting.proofs.Precede.{never_self, same_place, precede_trans, precede_turn, not_above_trans}
use Rattle.sorting.proofs.Sorting.{All, nil, cons, all_at, all_insert, all_sorted, all_weak, insert_before, insert_behind, insert_least, Climbing, climbing_sorted}
use Rattle.sorting.proofs.Sorting as climbing
use Rattle.batch.specs.Keep.{only, In, here, there}

-- ---- what holds for each of a list

module _ {P : ℕ → Type 0} where
  pub all_only : (p : ℕ → Bool) {l : List ℕ} → All P l → All P (only p l)
  all_only p nil = nil
  all_only p (cons {x} {xs} a b) = go (p x) (all_only p b)
    where
      go : (c : Bool) → All P (only p xs) → All P (cond c (x ∷ only p xs) (only p xs))
      go true r = cons a r
      go false r = r

pub all_in : (l : List ℕ) → All (λ (y : ℕ). In y l) l
all_in [] = nil
all_in (x ∷ l) = cons here (all_weak (λ y i. there i) (all_in l))

in_put : (s : Bytes) (x : ℕ) (l : List ℕ) → In x (insert s x l)
unfolding insert
in_put s x [] = here
in_put s x (y ∷ l) = go (precedes s x y) (in_put s x l)
  where
    go : (c : Bool) → In x (insert s x l) → In x (cond c (x ∷ y ∷ l) (y ∷ insert s x l))
    go true r = here
    go false r = there r

in_keep : (s : Bytes) (x : ℕ) {y : ℕ} {l : List ℕ} → In y l → In y (insert s x l)
unfolding insert
in_keep s x {y} (here {xs = xs}) = go (precedes s x y)
  where
    go : (c : Bool) → In y (cond c (x ∷ y ∷ xs) (y ∷ insert s x xs))
    go true = there here
    go false = here
in_keep s x {y} (there {y = z} {xs = xs} i) = go (precedes s x z) (in_keep s x i)
  where
    go : (c : Bool) → In y (insert s x xs) → In y (cond c (x ∷ z ∷ xs) (z ∷ insert s x xs))
    go true r = there (there i)
    go false r = there r

pub in_sorted : (s : Bytes) {y : ℕ} {l : List ℕ} → In y l → In y (sorted s l)
unfolding sorted
in_sorted s {y} (here {xs = xs}) = in_put s y (sorted s xs)
in_sorted s (there {y = z} i) = in_keep s z (in_sorted s i)

module _ (s : Bytes) where
  -- ---- a part of them

  only_yes : (p : ℕ → Bool) (x : ℕ) (l : List ℕ) → p x ≡ true → only p (x ∷ l) ≡ x ∷ only p l
  only_yes p x l e = rw e

  only_no : (p : ℕ → Bool) (x : ℕ) (l : List ℕ) → p x ≡ false → only p (x ∷ l) ≡ only p l
  only_no p x l e = rw e

  insert_passed : (p : ℕ → Bool) (x : ℕ) → p x ≡ false → (l : List ℕ) → only p (insert s x l) ≡ only p l
  unfolding insert
  insert_passed p x e [] = rw e
  insert_passed p x e (y ∷ l) = go (precedes s x y) (insert_passed p x e l)
    where
      go : (c : Bool) → only p (insert s x l) ≡ only p l → only p (cond c (x ∷ y ∷ l) (y ∷ insert s x l)) ≡ only p (y ∷ l)
      go true ih = only_no p x (y ∷ l) e
      go false ih = ap (λ (r : List ℕ). cond (p y) (y ∷ r) r) ih

  insert_kept : (p : ℕ → Bool) (x : ℕ) → p x ≡ true → {l : List ℕ} → Climbing s l → only p (insert s x l) ≡ insert s x (only p l)
  unfolding insert
  insert_kept p x e climbing.flat = rw e
  insert_kept p x e (climbing.up {x = y} {xs = l} a b) = go (precedes s x y) refl (p y) refl (insert_kept p x e b)
    where
      go : (c : Bool) → precedes s x y ≡ c → (d : Bool) → p y ≡ d → only p (insert s x l) ≡ insert s x (only p l) →
          only p (insert s x (y ∷ l)) ≡ insert s x (only p (y ∷ l))
      go true f d g ih =
          let t = precede_turn s x y f in
          rw (insert_before s x y l f, only_yes p x (y ∷ l) e) (sym (insert_least s x (all_only p (cons t (all_weak (λ z q. not_above_trans s x y z t q) a)))))
      go false f true g ih = rw (insert_behind s x y l f, only_yes p y (insert s x l) g, only_yes p y l g, ih) (sym (insert_behind s x y (only p l) f))
      go false f false g ih = rw (insert_behind s x y l f, only_no p y (insert s x l) g, only_no p y l g, ih)

  pub only_sorted : (p : ℕ → Bool) (l : List ℕ) → only p (sorted s l) ≡ sorted s (only p l)
  unfolding sorted
  only_sorted p [] = refl
  only_sorted p (x ∷ l) = go (p x) refl (only_sorted p l)
    where
      go : (c : Bool) → p x ≡ c → only p (sorted s l) ≡ sorted s (only p l) → only p (insert s x (sorted s l)) ≡ sorted s (cond c (x ∷ only p l) (only p l))
      go true e ih = insert_kept p x e (climbing_sorted s l) ∙ ap (insert s x) ih
      go false e ih = insert_passed p x e (sorted s l) ∙ ih

  -- ---- without equals

  pub data Rising : List ℕ → Type 0 where
    flat : Rising []
    up : {x : ℕ} {xs : List ℕ} → All (λ (y : ℕ). precedes s x y ≡ true) xs → Rising xs → Rising (x ∷ xs)

  rising_insert : (x : ℕ) {l : List ℕ} → All (λ (y : ℕ). y ≡ x → ⊥) l → Rising l → Rising (insert s x l)
  unfolding insert
  rising_insert x nil flat = up nil flat
  rising_insert x (cons {x = y} {xs = ys} n m) (up a b) = go (precedes s x y) refl (precedes s y x) refl (rising_insert x m b)
    where
      go : (c : Bool) → precedes s x y ≡ c → (d : Bool) → precedes s y x ≡ d → Rising (insert s x ys) → Rising (cond c (x ∷ y ∷ ys) (y ∷ insert s x ys))
      go true e d f r = up (cons e (all_weak (λ z q. precede_trans s x y z e q) a)) (up a b)
      go false e true f r = up (all_insert s x f a) r
      go false e false f r = absurd (n (same_place s y x f e))

  pub rising_only : (p : ℕ → Bool) {l : List ℕ} → Rising l → Rising (only p l)
  rising_only p flat = flat
  rising_only p (up {x} {xs} a b) = go (p x) (rising_only p b)
    where
      go : (c : Bool) → Rising (only p xs) → Rising (cond c (x ∷ only p xs) (only p xs))
      go true r = up (all_only p a) r
      go false r = r

  only_none : (p : ℕ → Bool) {l : List ℕ} → All (λ (y : ℕ). p y ≡ false) l → only p l ≡ []
  only_none p nil = refl
  only_none p (cons {x} {xs} a b) = rw a (only_none p b)

  -- those not behind the one at k are the first k + 1
  pub upto_take : {l : List ℕ} (k : ℕ) → Rising l → k < length l → only (λ (x : ℕ). not (precedes s (get_or l k 0) x)) l ≡ take (suc k) l
  upto_take k flat h = absurd (omega arith)
  upto_take zero (up {x} {xs} a b) h = rw (never_self s x) (ap (λ (r : List ℕ). x ∷ r) (only_none (λ (y : ℕ). not (precedes s x y)) (all_weak (λ y q. ap not q) a)))
  upto_take (suc k) (up {x} {xs} a b) h = rw (precede_turn s x (get_or xs k 0) (all_at a k (omega arith))) (ap (λ (r : List ℕ). x ∷ r) (upto_take k b (omega arith)))

  -- those not behind a message come first
  pub upto_first : (top : ℕ) {l : List ℕ} → Rising l →
      only (λ (x : ℕ). not (precedes s top x)) l ≡ take (length (only (λ (x : ℕ). not (precedes s top x)) l)) l
  upto_first top flat = refl
  upto_first top (up {x} {xs} a b) = go (precedes s top x) refl (upto_first top b)
    where
      go : (c : Bool) → precedes s top x ≡ c → only (λ (y : ℕ). not (precedes s top y)) xs ≡ take (length (only (λ (y : ℕ). not (precedes s top y)) xs)) xs →
          only (λ (y : ℕ). not (precedes s top y)) (x ∷ xs) ≡ take (length (only (λ (y : ℕ). not (precedes s top y)) (x ∷ xs))) (x ∷ xs)
      go false e ih = rw e (ap (λ (r : List ℕ). x ∷ r) ih)
      go true e ih =
          let z : only (λ (y : ℕ). not (precedes s top y)) xs ≡ [] = only_none (λ (y : ℕ). not (precedes s top y)) (all_weak (λ y q. ap not (precede_trans s top x y e q)) a) in
          rw (e, z)

pub only_shorter : (p : ℕ → Bool) (l : List ℕ) → length (only p l) ≤ length l
only_shorter p [] = omega arith
only_shorter p (x ∷ l) = go (p x) (only_shorter p l)
  where
    go : (c : Bool) → length (only p l) ≤ length l → length (cond c (x ∷ only p l) (only p l)) ≤ suc (length l)
    go true h = omega arith
    go false h = omega arith

-- offsets that grow
pub data Growing : List ℕ → Type 0 where
  flat : Growing []
  up : {x : ℕ} {xs : List ℕ} → All (λ (y : ℕ). x < y) xs → Growing xs → Growing (x ∷ xs)

pub rising_sorted : (s : Bytes) {l : List ℕ} → Growing l → Rising s (sorted s l)
unfolding sorted
rising_sorted s flat = flat
rising_sorted s (up {x} a b) = rising_insert s x (all_sorted s (all_weak (λ y q e. omega arith) a)) (rising_sorted s b)
