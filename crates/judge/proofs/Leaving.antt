-- The messages in message order, and what is left of them behind one.
use Prim.Native.Nat.{ℕ, zero, suc, ◌-◌, ◌<◌, ◌≤◌}
use mathlib.Core.Path.{◌≡◌, refl, sym, ap, subst, ◌∙◌}
use mathlib.Core.List.{List, [], ◌∷◌, ◌++◌}
use mathlib.Core.Bool.{Bool, true, false, cond}
use native.Mathlib.Omega.{arith}
use borrow.Author.Tests.{ne_eqb, lt-ltb, le-ltb}
use lib.Dec.{eqb}
use lib.ListN.{length, take}
use Rattle.payload.specs.Content.{Bytes}
use Rattle.heard.specs.Place.{precedes, Payload, Messages, done, more}
use Rattle.sorting.specs.Sorted.{sorted}
use Rattle.batch.specs.Next.{is_above, above, left}
use Rattle.sorting.proofs.Precede.{true≢false, never_self, precede_trans, precede_turn}
use Rattle.sorting.proofs.Sorting.{All, nil, cons, all_sorted, all_weak}
use Rattle.batch.specs.Keep.{only}
use Rattle.batch.proofs.Sorting.{all_only, Rising, flat, up, rising_only, rising_sorted}
use Rattle.batch.proofs.Keeping.{size_some, messages_ahead, messages_grow, messages_good, only_passed, only_both, above_only}
use Rattle.judge.specs.State.{offsets_f, offsets, Chain, end, on, last_of}
use Rattle.judge.proofs.Sorting.{Past, messages_past}

-- ---- the offsets, by walking

offsets_walked : (s : Bytes) (fuel : ℕ) {at stop : ℕ} {xs : List ℕ} → Messages s at xs stop → stop - at ≤ fuel → offsets_f fuel s at stop ≡ xs
unfolding offsets_f
offsets_walked s zero done h = refl
offsets_walked s (suc fuel) {stop = stop} done h = rw (le-ltb stop stop (omega arith))
offsets_walked s zero (more {at = at} p ms) h = absurd (omega (arith, size_some s at p, messages_ahead ms))
offsets_walked s (suc fuel) {stop = stop} (more {at = at} p ms) h =
    let l : at < stop = omega (arith, size_some s at p, messages_ahead ms) in
    rw (lt-ltb at stop l) (ap (λ (ys : List ℕ). at ∷ ys) (offsets_walked s fuel ms (omega (arith, size_some s at p))))

pub offsets_are : (s : Bytes) {stop : ℕ} {xs : List ℕ} → Messages s 8 xs stop → offsets s stop ≡ xs
unfolding offsets
offsets_are s {stop = stop} ms = offsets_walked s stop ms (omega arith)

-- ---- behind `low`

module _ (s : Bytes) where
  above_on : (low x y : ℕ) → is_above s low x ≡ true → precedes s x y ≡ true → is_above s low y ≡ true
  unfolding is_above
  above_on low x y h e = go (eqb low 0) h
    where
      go : (b : Bool) → cond b true (precedes s low x) ≡ true → cond b true (precedes s low y) ≡ true
      go true q = refl
      go false q = precede_trans s low x y q e

  above_is : (low x : ℕ) → 1 ≤ low → is_above s low x ≡ precedes s low x
  unfolding is_above
  above_is low x h = rw (ne_eqb low 0 (λ z. omega arith))

  -- what is not behind a message is not behind a later one
  above_not : (low z y : ℕ) → 1 ≤ z → is_above s low z ≡ true → is_above s low y ≡ false → is_above s z y ≡ false
  above_not low z y h a n = go (is_above s z y) refl
    where
      go : (b : Bool) → is_above s z y ≡ b → b ≡ false
      go true e = true≢false (above_on low z y a (sym (above_is z y h) ∙ e)) n
      go false e = refl

  -- ---- as a chain

  chain_rising : (low : ℕ) {M : List ℕ} → All (Payload s) M → Past 0 M → All (λ (x : ℕ). is_above s low x ≡ true) M → Rising s M → Chain s low M
  chain_rising low nil nil nil flat = end
  chain_rising low (cons {x} p ps) (cons q qs) (cons a rest) (up b r) =
      on (record { payload = p; behind = q; above = a }) (chain_rising x ps qs (all_weak (λ y e. above_is x y q ∙ e) b) r)

  -- ---- behind the last of the first ones

  at_last : {P : ℕ → Type 0} (x : ℕ) (T R : List ℕ) → All P (x ∷ T ++ R) → P (last_of x T)
  at_last x [] R (cons p a) = p
  at_last x (y ∷ T) R (cons p a) = at_last y T R a

  only_all : (p : ℕ → Bool) {l : List ℕ} → All (λ (x : ℕ). p x ≡ true) l → only p l ≡ l
  only_all p nil = refl
  only_all p (cons {x} e a) = rw e (ap (λ (l : List ℕ). x ∷ l) (only_all p a))

  only_last : (x : ℕ) (T R : List ℕ) → Past 0 (x ∷ T ++ R) → Rising s (x ∷ T ++ R) → only (is_above s (last_of x T)) (x ∷ T ++ R) ≡ R
  only_last x [] R (cons p a) (up b r) = rw (above_is x x p ∙ never_self s x) (only_all (is_above s x) (all_weak (λ y e. above_is x y p ∙ e) b))
  only_last x (y ∷ T) R (cons p a) (up b r) =
      rw (above_is (last_of y T) x (at_last y T R a) ∙ precede_turn s x (last_of y T) (at_last y T R b)) (only_last y T R a r)

  module _ {stop : ℕ} {xs : List ℕ} (ms : Messages s 8 xs stop) (low : ℕ) where
    left_is : left s low xs ≡ only (is_above s low) (sorted s xs)
    left_is = above_only s low (sorted s xs)

    left_past : Past 0 (left s low xs)
    left_past = rw left_is (all_only (is_above s low) (messages_past s ms 0 (omega arith)))

    left_above : All (λ (x : ℕ). is_above s low x ≡ true) (left s low xs)
    left_above = rw left_is (only_passed (is_above s low) (sorted s xs))

    left_rising : Rising s (left s low xs)
    left_rising = rw left_is (rising_only s (is_above s low) (rising_sorted s (messages_grow ms)))

    pub chain_left : Chain s low (left s low xs)
    chain_left = chain_rising low (rw left_is (all_only (is_above s low) (all_sorted s (messages_good ms)))) left_past left_above left_rising

    pub left_on : (T R : List ℕ) → 1 ≤ length T → left s low xs ≡ T ++ R → left s (last_of low T) xs ≡ R
    left_on [] R n e = absurd (omega arith)
    left_on (x ∷ T) R n e =
        let z = last_of x T in
        let p : Past 0 (x ∷ T ++ R) = subst (Past 0) e left_past in
        let a = at_last x T R (subst (All (λ (y : ℕ). is_above s low y ≡ true)) e left_above) in
        above_only s z (sorted s xs)
        ∙ only_both (is_above s z) (is_above s low) (is_above s z) (λ y h. refl) (λ y h. above_not low z y (at_last x T R p) a h) (sorted s xs)
        ∙ ap (only (is_above s z)) (sym left_is ∙ e)
        ∙ only_last x T R p (subst (Rising s) e left_rising)

-- from the start on all are left
pub left_all_lem : (s : Bytes) (xs : List ℕ) → left s 0 xs ≡ sorted s xs
unfolding above is_above
left_all_lem s xs = go (sorted s xs)
  where
    go : (L : List ℕ) → above s 0 L ≡ L
    go [] = refl
    go (x ∷ L) = ap (λ (l : List ℕ). x ∷ l) (go L)

-- the first of a chain
pub chain_take : (s : Bytes) (last n : ℕ) (xs : List ℕ) → Chain s last xs → Chain s last (take n xs)
chain_take s last zero xs c = end
chain_take s last (suc n) [] c = end
chain_take s last (suc n) (x ∷ xs) (on m c) = on m (chain_take s x n xs c)
