-- Offsets in message order: a message goes in front of the later ones of its record.
use Prim.Native.Nat.{ℕ, ◌+◌, ◌<◌}
use mathlib.Core.Path.{◌≡◌, refl, ap, ◌∙◌}
use mathlib.Core.List.{List, [], ◌∷◌}
use mathlib.Core.Bool.{Bool, true, false, cond}
use native.Mathlib.Omega.{arith}
use lib.Dec.{eqb}
use borrow.Author.Tests.{lt-ltb, ne_eqb}
use Rattle.std.specs.declared.cmp.Ordering.{Ordering}
use Rattle.std.specs.declared.cmp.Ordering.TheVariants.{Less, Equal, Greater}
use Rattle.order.specs.Comparison.{bytes, flip}
use Rattle.order.proofs.Comparison.{strings, AtMost, less≢equal, less≢greater, equal≢greater}
use Rattle.change.specs.Application.{is_equal}
use Rattle.payload.specs.Content.{Bytes}
use Rattle.heard.specs.Place.{key_at, size_at, Payload, Messages, precedes, done, more}
use Rattle.sorting.specs.Sorted.{insert, sorted}
use Rattle.sorting.proofs.Precede.{true≢false}
use Rattle.sorting.proofs.Sorting.{All, cons, all_sorted, all_weak, insert_none}
use Rattle.batch.proofs.Keeping.{size_some, messages_from}
use Rattle.judge.specs.Walk.{follows}

-- ---- byte strings

pub between : (k l : Bytes) → AtMost strings k l → AtMost strings l k → k ≡ l
between k l p q = go (bytes k l) refl
  where
    go : (o : Ordering) → bytes k l ≡ o → k ≡ l
    go Less e = absurd (q (strings.turn k l ∙ ap flip e))
    go Equal e = strings.same k l e
    go Greater e = absurd (p e)

pub less_at_most : (k l : Bytes) → bytes k l ≡ Less → AtMost strings k l
less_at_most k l e g = less≢greater e g

pub less_apart : (k l : Bytes) → bytes k l ≡ Less → ¬ (k ≡ l)
less_apart k l e q = less≢equal e (rw q (strings.self l))

pub less_most : (k l m : Bytes) → bytes k l ≡ Less → AtMost strings l m → bytes k m ≡ Less
less_most k l m e h = go (bytes l m) refl
  where
    go : (o : Ordering) → bytes l m ≡ o → bytes k m ≡ Less
    go Less d = strings.trans k l m e d
    go Equal d = rw (← strings.same l m d) e
    go Greater d = absurd (h d)

-- not above, and another: below
pub most_apart : (k l : Bytes) → AtMost strings k l → ¬ (k ≡ l) → bytes k l ≡ Less
most_apart k l h n = go (bytes k l) refl
  where
    go : (o : Ordering) → bytes k l ≡ o → bytes k l ≡ Less
    go Less e = e
    go Equal e = absurd (n (strings.same k l e))
    go Greater e = absurd (h e)

pub turned : (k l : Bytes) → bytes k l ≡ Greater → bytes l k ≡ Less
turned k l e = strings.turn k l ∙ ap flip e

-- where a message goes: in front of one of a record not below its own, behind one below
pub data Side (o : Ordering) : Type 0 where
  front : ¬ (o ≡ Greater) → Side o
  behind : o ≡ Greater → Side o

pub side : (o : Ordering) → Side o
side Less = front (λ e. less≢greater refl e)
side Equal = front (λ e. equal≢greater refl e)
side Greater = behind refl

-- ---- lists of offsets

-- each offset is past x
abbrev pub Past : ℕ → List ℕ → Type 0
Past x = All (λ (y : ℕ). x < y)

pub past_all : (x : ℕ) (ys : List ℕ) → Past x ys → Past 0 ys
past_all x ys p = all_weak (λ y q. omega arith) p

module _ (s : Bytes) where
  -- the records do not descend, from the one of `last` on
  abbrev pub Ascends : ℕ → List ℕ → Type 0
  Ascends last [] = Unit {0}
  Ascends last (y ∷ ys) = AtMost strings (key_at s last) (key_at s y) × Ascends y ys

  abbrev pub InOrder : List ℕ → Type 0
  InOrder [] = Unit {0}
  InOrder (y ∷ ys) = Ascends y ys

  pub ascends_order : (last : ℕ) (ys : List ℕ) → Ascends last ys → InOrder ys
  ascends_order last [] h = tt
  ascends_order last (y ∷ ys) h = h.1

  -- ---- insertion

  pub insert_front : (x y : ℕ) (ys : List ℕ) → x < y → AtMost strings (key_at s x) (key_at s y) → insert s x (y ∷ ys) ≡ x ∷ y ∷ ys
  unfolding insert precedes
  insert_front x y ys l h = go (bytes (key_at s x) (key_at s y)) refl
    where
      go : (o : Ordering) → bytes (key_at s x) (key_at s y) ≡ o → insert s x (y ∷ ys) ≡ x ∷ y ∷ ys
      go Less e = rw e
      go Equal e = rw (e, lt-ltb x y l)
      go Greater e = absurd (h e)

  pub insert_behind : (x y : ℕ) (ys : List ℕ) → bytes (key_at s x) (key_at s y) ≡ Greater → insert s x (y ∷ ys) ≡ y ∷ insert s x ys
  unfolding insert precedes
  insert_behind x y ys e = rw e

  ascends_insert : (last x : ℕ) (ys : List ℕ) → AtMost strings (key_at s last) (key_at s x) → Ascends last ys → Past x ys → Ascends last (insert s x ys)
  ascends_insert last x [] h a p = rw (insert_none s x) (h, tt)
  ascends_insert last x (y ∷ ys) h a (cons l p) = go (side (bytes (key_at s x) (key_at s y))) (λ b. ascends_insert y x ys b a.1 p)
    where
      go : Side (bytes (key_at s x) (key_at s y)) → (AtMost strings (key_at s y) (key_at s x) → Ascends y (insert s x ys)) → Ascends last (insert s x (y ∷ ys))
      go (front f) i = rw (insert_front x y ys l f) (h, (f, a.1))
      go (behind b) i = rw (insert_behind x y ys b) (a.0, i (less_at_most (key_at s y) (key_at s x) (turned (key_at s x) (key_at s y) b)))

  pub order_insert : (x : ℕ) (ys : List ℕ) → InOrder ys → Past x ys → InOrder (insert s x ys)
  order_insert x [] a p = rw (insert_none s x) tt
  order_insert x (y ∷ ys) a (cons l p) = go (side (bytes (key_at s x) (key_at s y)))
    where
      go : Side (bytes (key_at s x) (key_at s y)) → InOrder (insert s x (y ∷ ys))
      go (front f) = rw (insert_front x y ys l f) (f, a)
      go (behind b) = rw (insert_behind x y ys b) (ascends_insert y x ys (less_at_most (key_at s y) (key_at s x) (turned (key_at s x) (key_at s y) b)) a p)

  -- ---- the messages of an answer

  -- past z, if the first is, also when they are in order
  pub messages_past : {at stop : ℕ} {xs : List ℕ} → Messages s at xs stop → (z : ℕ) → z < at → Past z (sorted s xs)
  messages_past m z l = all_sorted s (all_weak (λ y q. omega arith) (messages_from m))

  -- the first stands before the others
  pub first_past : {at stop : ℕ} {xs : List ℕ} → Payload s at → Messages s (at + size_at s at) xs stop → Past at (sorted s xs)
  first_past {at} p m = messages_past m at (omega (arith, size_some s at p))

  pub sorted_end : sorted s [] ≡ []
  unfolding sorted
  sorted_end = refl

  pub sorted_more : (x : ℕ) (xs : List ℕ) → sorted s (x ∷ xs) ≡ insert s x (sorted s xs)
  unfolding sorted
  sorted_more x xs = refl

  pub sorted_order : {at stop : ℕ} {xs : List ℕ} → Messages s at xs stop → InOrder (sorted s xs)
  sorted_order done = rw sorted_end tt
  sorted_order (more {at = at} {xs = xs} p m) = rw (sorted_more at xs) (order_insert at (sorted s xs) (sorted_order m) (first_past p m))

  -- ---- the message before

  -- `last` is none, or of a lower record than x
  pub data Under (last x : ℕ) : Type 0 where
    nothing : last ≡ 0 → Under last x
    below : 0 < last → bytes (key_at s last) (key_at s x) ≡ Less → Under last x

  pub follows_none : (y : ℕ) → follows s 0 y ≡ false
  unfolding follows
  follows_none y = refl

  pub follows_some : (last y : ℕ) → 0 < last → follows s last y ≡ is_equal (bytes (key_at s last) (key_at s y))
  unfolding follows
  follows_some last y l = rw (ne_eqb last 0 (λ e. omega arith))

  pub follows_same : (last y : ℕ) → follows s last y ≡ true → key_at s last ≡ key_at s y
  unfolding follows
  follows_same last y h = go (eqb last 0) (bytes (key_at s last) (key_at s y)) refl h
    where
      go : (b : Bool) (o : Ordering) → bytes (key_at s last) (key_at s y) ≡ o → cond b false (is_equal o) ≡ true → key_at s last ≡ key_at s y
      go true o e h = true≢false h refl
      go false Less e h = true≢false h refl
      go false Equal e h = strings.same (key_at s last) (key_at s y) e
      go false Greater e h = true≢false h refl

  pub follows_apart : (last y : ℕ) → 0 < last → follows s last y ≡ false → ¬ (key_at s last ≡ key_at s y)
  follows_apart last y l h q =
      let e : bytes (key_at s last) (key_at s y) ≡ Equal = rw q (strings.self (key_at s y)) in
      true≢false (follows_some last y l ∙ ap is_equal e) h

  pub under_apart : (last x y : ℕ) → Under last x → AtMost strings (key_at s x) (key_at s y) → follows s last y ≡ false
  under_apart last x y (nothing e) h = rw e (follows_none y)
  under_apart last x y (below l e) h = follows_some last y l ∙ ap is_equal (less_most (key_at s last) (key_at s x) (key_at s y) e h)
