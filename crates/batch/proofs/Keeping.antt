-- Laws of what is kept: the messages behind `low` and not behind `top`.
use Rattle.std.proofs.Common.{◌≡◌, ℕ, zero, suc, ◌+◌, ◌<◌, ◌≤◌, Bool, true, false, cond, not, List, [], ◌∷◌, ◌++◌, length, get_or, take, sym, refl, ap, ◌∙◌, arith, ne_eqb}
use mathlib.Core.Bool.{and-eq-true_iff, and-true, and-false}
use native.Mathlib.Decide.{ℕ_discrete}
use borrow.Author.Tests.{not-true}
use Rattle.payload.specs.Content.{Bytes}
use Rattle.heard.specs.Place.{Messages, done, more, Payload, Sized, v4, v6, key, size_at, precedes}
use Rattle.sorting.specs.Sorted.{sorted}
use Rattle.batch.specs.Next.{is_above, above, left}
use Rattle.batch.specs.Keep.{only, is_up_to, is_wanted, In, here, there, one, TopIs}
use Rattle.batch.specs.Keep as keep
use Rattle.batch.specs.Map.{Stretch}
use Rattle.sorting.proofs.Precede.{true≢false, not_above_trans, never_self}
use Rattle.sorting.proofs.Sorting.{All, nil, cons, all_at, all_sorted, all_weak, climbing_sorted, sorted_fixed}
use Rattle.batch.proofs.Sorting.{all_only, all_in, only_sorted, Rising, rising_only, rising_sorted, upto_take, upto_first, only_shorter, Growing, flat, up}

-- ---- messages by their offsets

pub size_some : (s : Bytes) (at : ℕ) → Payload s at → 20 ≤ size_at s at
size_some s at p = go p.sized
  where
    go : Sized s at → 20 ≤ size_at s at
    go (v4 a b) = omega (arith, b)
    go (v6 a b) = omega (arith, b)
    go (key a b c) = omega (arith, b)

module _ {s : Bytes} where
  pub messages_ahead : {at stop : ℕ} {xs : List ℕ} → Messages s at xs stop → at ≤ stop
  messages_ahead done = omega arith
  messages_ahead (more {at} {stop} p m) = omega (arith, messages_ahead m, size_some s at p)

  pub messages_from : {at stop : ℕ} {xs : List ℕ} → Messages s at xs stop → All (λ (x : ℕ). at ≤ x) xs
  messages_from done = nil
  messages_from (more {at} p m) = cons {x = at} (omega arith) (all_weak (λ x q. omega (arith, size_some s at p)) (messages_from m))

  pub messages_grow : {at stop : ℕ} {xs : List ℕ} → Messages s at xs stop → Growing xs
  messages_grow done = flat
  messages_grow (more {at} p m) = up {x = at} (all_weak (λ x q. omega (arith, size_some s at p)) (messages_from m)) (messages_grow m)

  pub messages_good : {at stop : ℕ} {xs : List ℕ} → Messages s at xs stop → All (λ (x : ℕ). Payload s x) xs
  messages_good done = nil
  messages_good (more p m) = cons p (messages_good m)

  pub messages_append : {at mid stop : ℕ} {xs ys : List ℕ} → Messages s at xs mid → Messages s mid ys stop → Messages s at (xs ++ ys) stop
  messages_append done n = n
  messages_append (more p m) n = more p (messages_append m n)

  same_by : {at stop end : ℕ} {xs ys : List ℕ} → Messages s at xs stop → Messages s at ys end → stop ≡ end → xs ≡ ys
  same_by done done e = refl
  same_by done (more {at} p m) e = absurd (omega (arith, messages_ahead m, size_some s at p))
  same_by (more {at} p m) done e = absurd (omega (arith, messages_ahead m, size_some s at p))
  same_by (more {at} p m) (more q n) e = ap (λ (l : List ℕ). at ∷ l) (same_by m n e)

  -- they are determined by where they start and stop
  pub messages_same : {at stop : ℕ} {xs ys : List ℕ} → Messages s at xs stop → Messages s at ys stop → xs ≡ ys
  messages_same m n = same_by m n refl

-- the first of them, and those behind it
pub record First (s : Bytes) (at stop : ℕ) (xs : List ℕ) : Type 0 where
  pub good : Payload s at
  pub rest : List ℕ
  pub ahead : Messages s (at + size_at s at) rest stop
  pub is : xs ≡ at ∷ rest

pub messages_first : {s : Bytes} {at stop : ℕ} {xs : List ℕ} → Messages s at xs stop → at < stop → First s at stop xs
messages_first done h = absurd (omega arith)
messages_first (more {xs = xs} p m) h = record { good = p; rest = xs; ahead = m; is = refl }

-- messages that stop earlier leave the others ahead
pub record Split (s : Bytes) (at stop : ℕ) : Type 0 where
  pub rest : List ℕ
  pub ahead : Messages s at rest stop

pub messages_split : {s : Bytes} {at over stop : ℕ} {cs xs : List ℕ} → Messages s at cs over → Messages s at xs stop → over ≤ stop → Split s over stop
messages_split {xs = xs} done n h = record { rest = xs; ahead = n }
messages_split {s = s} (more {at} p m) done h = absurd (omega (arith, messages_ahead m, size_some s at p))
messages_split (more p m) (more q n) h = messages_split m n h

-- cut at one of them
pub record Halves (s : Bytes) (from mid over : ℕ) : Type 0 where
  pub first : Stretch s from mid
  pub second : Stretch s mid over

pub messages_halves : {s : Bytes} {from over : ℕ} {cs : List ℕ} → Messages s from cs over → (i : ℕ) → i < length cs → Halves s from (get_or cs i 0) over
messages_halves done i h = absurd (omega arith)
messages_halves (more {at} {stop} {xs} p m) zero h = record { first = record { xs = []; messages = done }; second = record { xs = at ∷ xs; messages = more p m } }
messages_halves (more {at} {stop} {xs} p m) (suc i) h =
    let r = messages_halves m i (omega arith) in
    record { first = record { xs = at ∷ r.first.xs; messages = more p r.first.messages }; second = r.second }

-- some of a list, in its order
pub data Sub : List ℕ → List ℕ → Type 0 where
  end : Sub [] []
  keep_one : {x : ℕ} {u v : List ℕ} → Sub u v → Sub (x ∷ u) (x ∷ v)
  skip_one : {x : ℕ} {u v : List ℕ} → Sub u v → Sub u (x ∷ v)

pub sub_none : (v : List ℕ) → Sub [] v
sub_none [] = end
sub_none (x ∷ v) = skip_one (sub_none v)

pub sub_first : (u v : List ℕ) → Sub u (u ++ v)
sub_first [] v = sub_none v
sub_first (x ∷ u) v = keep_one (sub_first u v)

pub sub_behind : (u : List ℕ) {v w : List ℕ} → Sub v w → Sub (u ++ v) (u ++ w)
sub_behind [] h = h
sub_behind (x ∷ u) h = keep_one (sub_behind u h)

pub sub_past : (m : List ℕ) {v w : List ℕ} → Sub v w → Sub v (m ++ w)
sub_past [] h = h
sub_past (x ∷ m) h = skip_one (sub_past m h)

pub all_sub : {P : ℕ → Type 0} {u v : List ℕ} → Sub u v → All P v → All P u
all_sub end a = nil
all_sub (keep_one h) (cons p a) = cons p (all_sub h a)
all_sub (skip_one h) (cons p a) = all_sub h a

pub growing_sub : {u v : List ℕ} → Sub u v → Growing v → Growing u
growing_sub end g = flat
growing_sub (keep_one h) (up a g) = up (all_sub h a) (growing_sub h g)
growing_sub (skip_one h) (up a g) = growing_sub h g

pub in_all : {P : ℕ → Type 0} {x : ℕ} {l : List ℕ} → In x l → All P l → P x
in_all here (cons p a) = p
in_all (there i) (cons p a) = in_all i a

pub in_append : {x : ℕ} {l : List ℕ} (m : List ℕ) → In x l → In x (l ++ m)
in_append m here = here
in_append m (there i) = there (in_append m i)

pub in_behind : {x : ℕ} (l : List ℕ) {m : List ℕ} → In x m → In x (l ++ m)
in_behind [] i = i
in_behind (y ∷ l) i = there (in_behind l i)

-- ---- tests

module _ (s : Bytes) where
  pub wanted_above : (low top x : ℕ) → is_wanted s low top x ≡ true → is_above s low x ≡ true
  unfolding is_wanted
  wanted_above low top x e = ((and-eq-true_iff (is_above s low x) (is_up_to s top x)).0 e).0

  wanted_upto : (low top x : ℕ) → is_wanted s low top x ≡ true → is_up_to s top x ≡ true
  unfolding is_wanted
  wanted_upto low top x e = ((and-eq-true_iff (is_above s low x) (is_up_to s top x)).0 e).1

  pub wanted_is : (low top x : ℕ) → is_above s low x ≡ true → is_up_to s top x ≡ true → is_wanted s low top x ≡ true
  unfolding is_wanted
  wanted_is low top x e f = rw (e, f)

  pub wanted_not : (low top x : ℕ) → is_above s low x ≡ false → is_wanted s low top x ≡ false
  unfolding is_wanted
  wanted_not low top x e = rw e

  pub wanted_past : (low top x : ℕ) → is_up_to s top x ≡ false → is_wanted s low top x ≡ false
  unfolding is_wanted
  wanted_past low top x e = rw e (and-false (is_above s low x))

  pub wanted_all : (low x : ℕ) → is_wanted s low 0 x ≡ is_above s low x
  unfolding is_wanted is_up_to
  wanted_all low x = and-true (is_above s low x)

  pub upto_all : (x : ℕ) → is_up_to s 0 x ≡ true
  unfolding is_up_to
  upto_all x = refl

  upto_zero : (top x : ℕ) → top ≡ 0 → is_up_to s top x ≡ true
  upto_zero top x e = rw e (upto_all x)

  pub upto_is : (top x : ℕ) → (top ≡ 0 → ⊥) → is_up_to s top x ≡ not (precedes s top x)
  unfolding is_up_to
  upto_is top x n = rw (ne_eqb top 0 n)

  pub upto_self : (top : ℕ) → is_up_to s top top ≡ true
  upto_self top = go (ℕ_discrete top 0)
    where
      go : Dec (top ≡ 0) → is_up_to s top top ≡ true
      go (yes e) = upto_zero top top e
      go (no n) = upto_is top top n ∙ ap not (never_self s top)

  -- what is not behind one that is not behind the top is not behind it
  upto_trans : (top t x : ℕ) → (t ≡ 0 → ⊥) → is_up_to s top t ≡ true → is_up_to s t x ≡ true → is_up_to s top x ≡ true
  upto_trans top t x n e f = go (ℕ_discrete top 0)
    where
      go : Dec (top ≡ 0) → is_up_to s top x ≡ true
      go (yes z) = upto_zero top x z
      go (no z) =
          upto_is top x z
          ∙ ap not (not_above_trans s x t top (not-true (precedes s t x) (sym (upto_is t x n) ∙ f)) (not-true (precedes s top t) (sym (upto_is top t z) ∙ e)))

-- ---- parts of a list by tests

pub only_append : (p : ℕ → Bool) (u v : List ℕ) → only p (u ++ v) ≡ only p u ++ only p v
only_append p [] v = refl
only_append p (y ∷ u) v = go (p y) (only_append p u v)
  where
    go : (c : Bool) → only p (u ++ v) ≡ only p u ++ only p v → cond c (y ∷ only p (u ++ v)) (only p (u ++ v)) ≡ cond c (y ∷ only p u) (only p u) ++ only p v
    go true ih = ap (λ (r : List ℕ). y ∷ r) ih
    go false ih = ih

-- one more in the middle
pub only_in : (p : ℕ → Bool) (u v : List ℕ) (x : ℕ) → p x ≡ true → only p (u ++ (x ∷ v)) ≡ only p u ++ (x ∷ only p v)
only_in p u v x e = only_append p u (x ∷ v) ∙ rw e

pub only_out : (p : ℕ → Bool) (u v : List ℕ) (x : ℕ) → p x ≡ false → only p (u ++ (x ∷ v)) ≡ only p (u ++ v)
only_out p u v x e = only_append p u (x ∷ v) ∙ rw e (sym (only_append p u v))

pub only_clear : (p : ℕ → Bool) (l cs : List ℕ) → ((x : ℕ) → In x cs → p x ≡ false) → only p (l ++ cs) ≡ only p l
only_clear p [] [] f = refl
only_clear p [] (x ∷ cs) f = rw (f x here) (only_clear p [] cs (λ y i. f y (there i)))
only_clear p (y ∷ l) cs f = ap (λ (r : List ℕ). cond (p y) (y ∷ r) r) (only_clear p l cs f)

-- each of them passes
pub only_passed : (p : ℕ → Bool) (l : List ℕ) → All (λ (x : ℕ). p x ≡ true) (only p l)
only_passed p [] = nil
only_passed p (x ∷ l) = go (p x) refl (only_passed p l)
  where
    go : (c : Bool) → p x ≡ c → All (λ (y : ℕ). p y ≡ true) (only p l) → All (λ (y : ℕ). p y ≡ true) (cond c (x ∷ only p l) (only p l))
    go true e r = cons e r
    go false e r = r

-- by two tests, one after the other
pub only_both : (p q r : ℕ → Bool) → ((x : ℕ) → q x ≡ true → r x ≡ p x) → ((x : ℕ) → q x ≡ false → r x ≡ false) → (l : List ℕ) → only r l ≡ only p (only q l)
only_both p q r f g [] = refl
only_both p q r f g (x ∷ l) = go (q x) refl (only_both p q r f g l)
  where
    go : (c : Bool) → q x ≡ c → only r l ≡ only p (only q l) → only r (x ∷ l) ≡ only p (cond c (x ∷ only q l) (only q l))
    go true e ih = rw (f x e) (ap (λ (m : List ℕ). cond (p x) (x ∷ m) m) ih)
    go false e ih = rw (g x e) ih

pub only_length : (p : ℕ → Bool) {x : ℕ} {l : List ℕ} → In x l → p x ≡ true → 1 ≤ length (only p l)
only_length p {x} (here {xs = xs}) e = rw e (omega arith)
only_length p (there {y = y} {xs = xs} i) e = go (p y) (only_length p i e)
  where
    go : (c : Bool) → 1 ≤ length (only p xs) → 1 ≤ length (cond c (y ∷ only p xs) (only p xs))
    go true h = omega arith
    go false h = h

pub only_same : (p q : ℕ → Bool) → ((x : ℕ) → p x ≡ q x) → (l : List ℕ) → only p l ≡ only q l
only_same p q f [] = refl
only_same p q f (x ∷ l) = rw (f x, only_same p q f l)

pub above_only : (s : Bytes) (low : ℕ) (l : List ℕ) → above s low l ≡ only (is_above s low) l
unfolding above
above_only s low [] = refl
above_only s low (x ∷ l) = rw (above_only s low l)

-- ---- the lower part of what was kept is what a lower top keeps

module _ (s : Bytes) (low top : ℕ) (xs : List ℕ) (g : Growing xs) (from : All (λ (x : ℕ). 8 ≤ x) xs) where
  rising : Rising s (sorted s (only (is_wanted s low top) xs))
  rising = rw (only_sorted s (is_wanted s low top) xs) at (rising_only s (is_wanted s low top) (rising_sorted s g))

  module _ (k : ℕ) (h : k < length (sorted s (only (is_wanted s low top) xs))) where
    -- the new top
    abbrev fall : ℕ
    fall = get_or (sorted s (only (is_wanted s low top) xs)) k 0

    fall_some : fall ≡ 0 → ⊥
    fall_some e = omega (arith, all_at (all_sorted s (all_only (is_wanted s low top) from)) k h)

    fall_wanted : is_wanted s low top fall ≡ true
    fall_wanted = all_at (all_sorted s (only_passed (is_wanted s low top) xs)) k h

    pub fall_top : TopIs s xs low fall
    fall_top = keep.one (all_at (all_sorted s (all_only (is_wanted s low top) (all_in xs))) k h) (wanted_above s low top fall fall_wanted)

    lower_only : only (is_wanted s low fall) xs ≡ only (is_up_to s fall) (only (is_wanted s low top) xs)
    lower_only = only_both (is_up_to s fall) (is_wanted s low top) (is_wanted s low fall) yes_case no_case xs
      where
        yes_case : (x : ℕ) → is_wanted s low top x ≡ true → is_wanted s low fall x ≡ is_up_to s fall x
        yes_case x e = go (is_up_to s fall x) refl
          where
            go : (b : Bool) → is_up_to s fall x ≡ b → is_wanted s low fall x ≡ b
            go true f = wanted_is s low fall x (wanted_above s low top x e) f
            go false f = wanted_past s low fall x f

        no_case : (x : ℕ) → is_wanted s low top x ≡ false → is_wanted s low fall x ≡ false
        no_case x e = go (is_wanted s low fall x) refl
          where
            go : (b : Bool) → is_wanted s low fall x ≡ b → b ≡ false
            go true f =
                true≢false (wanted_is s low top x (wanted_above s low fall x f)
                (upto_trans s top fall x fall_some (wanted_upto s low top fall fall_wanted) (wanted_upto s low fall x f))) e
            go false f = refl

    pub lower_sorted : sorted s (only (is_wanted s low fall) xs) ≡ take (suc k) (sorted s (only (is_wanted s low top) xs))
    lower_sorted =
        ap (sorted s) lower_only
        ∙ sym (only_sorted s (is_up_to s fall) (only (is_wanted s low top) xs))
        ∙ only_same (is_up_to s fall) (λ (x : ℕ). not (precedes s fall x)) (λ x. upto_is s fall x fall_some) (sorted s (only (is_wanted s low top) xs))
        ∙ upto_take s k rising h

    pub lower_again : sorted s (take (suc k) (sorted s (only (is_wanted s low top) xs))) ≡ sorted s (only (is_wanted s low fall) xs)
    lower_again = rw (← lower_sorted) (sorted_fixed s (climbing_sorted s (only (is_wanted s low fall) xs)))

-- ---- with a top, what is kept is the first part of what is left

module _ (s : Bytes) (low top : ℕ) (n : top ≡ 0 → ⊥) (xs : List ℕ) (g : Growing xs) where
  part_only : sorted s (only (is_wanted s low top) xs) ≡ only (λ (x : ℕ). not (precedes s top x)) (left s low xs)
  part_only =
      sym (only_sorted s (is_wanted s low top) xs)
      ∙ only_both (λ (x : ℕ). not (precedes s top x)) (is_above s low) (is_wanted s low top) yes_case no_case (sorted s xs)
      ∙ ap (only (λ (x : ℕ). not (precedes s top x))) (sym (above_only s low (sorted s xs)))
    where
      yes_case : (x : ℕ) → is_above s low x ≡ true → is_wanted s low top x ≡ not (precedes s top x)
      yes_case x e = go (is_up_to s top x) refl ∙ upto_is s top x n
        where
          go : (b : Bool) → is_up_to s top x ≡ b → is_wanted s low top x ≡ b
          go true f = wanted_is s low top x e f
          go false f = wanted_past s low top x f

      no_case : (x : ℕ) → is_above s low x ≡ false → is_wanted s low top x ≡ false
      no_case x e = wanted_not s low top x e

  left_rising : Rising s (left s low xs)
  left_rising = rw (above_only s low (sorted s xs)) (rising_only s (is_above s low) (rising_sorted s g))

  pub part_first : sorted s (only (is_wanted s low top) xs) ≡ take (length (sorted s (only (is_wanted s low top) xs))) (left s low xs)
  part_first = rw part_only (upto_first s top left_rising)

  pub part_shorter : length (sorted s (only (is_wanted s low top) xs)) ≤ length (left s low xs)
  part_shorter = rw part_only (only_shorter (λ (x : ℕ). not (precedes s top x)) (left s low xs))
