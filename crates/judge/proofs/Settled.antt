-- What the messages in message order leave is what the fold over them as they came leaves.
use Prim.Native.Nat.{ℕ, ◌+◌, ◌<◌}
use mathlib.Core.Path.{◌≡◌, refl, sym, ◌∙◌}
use mathlib.Core.List.{List, [], ◌∷◌, map}
use mathlib.Core.Option.{Option, none, some}
use mathlib.Core.Bool.{Bool, true, false}
use native.Mathlib.Omega.{arith}
use Rattle.std.specs.declared.cmp.Ordering.{Ordering}
use Rattle.std.specs.declared.cmp.Ordering.TheVariants.{Less, Equal, Greater}
use Rattle.order.specs.Comparison.{bytes}
use Rattle.order.specs.Map.{own, lookup, Below, Sorted}
use Rattle.order.proofs.Never.{never}
use Rattle.order.proofs.Comparison.{strings, AtMost, at_most_self}
use Rattle.order.proofs.Map.{ext, absent_at}
use Rattle.change.specs.Change.{Change, announce, withdraw, update}
use Rattle.change.specs.Difference as change
use Rattle.change.specs.Application.{apply_at, apply}
use Rattle.change.proofs.Whole.{apply_sorted, apply_lookup, apply_none}
use Rattle.body.specs.declared.tag.Form.TheVariants.{Snapshot}
use Rattle.payload.specs.Content.{Bytes}
use Rattle.payload.specs.Valid.{IsMap}
use Rattle.message.specs.Hear.{Told}
use Rattle.message.specs.Take.{all, misfit, as_item, take}
use Rattle.message.proofs.Taking.{take_none, one_lookup, one_sorted}
use Rattle.heard.specs.Place.{key_at, size_at, told_at, Payload, Messages, done, more}
use Rattle.sorting.specs.Sorted.{insert, sorted}
use Rattle.sorting.proofs.Sorting.{cons, insert_none}
use Rattle.judge.specs.Walk.{follows, settle, settled}
use Rattle.judge.specs.Promise.{later}
use Rattle.judge.proofs.Sorting.{most_apart, turned, Side, side, front, behind, Past, past_all, Ascends, InOrder, insert_front, insert_behind, messages_past, first_past, sorted_end, sorted_more, sorted_order, below, follows_same, follows_apart, under_apart}
use Rattle.judge.proofs.Records.{wrong, after, after_map, take_right, take_wrong}

abbrev Said : Type 0
Said = Option (Change Bytes)

-- what a message says at a key
abbrev says_at : Bytes → Bytes → ℕ → Said → Said
says_at s k x rest = own (bytes k (key_at s x)) (some (told_at s x).change) rest

later_none : (o : Said) → later o none ≡ o
later_none none = refl
later_none (some c) = refl

module _ (s : Bytes) where
  pub settle_end : (last : ℕ) → settle s last [] ≡ as_item (told_at s last) ∷ []
  unfolding settle
  settle_end last = refl

  pub settle_same : (last y : ℕ) (ys : List ℕ) → follows s last y ≡ true → settle s last (y ∷ ys) ≡ settle s y ys
  unfolding settle
  settle_same last y ys e = rw e

  pub settle_other : (last y : ℕ) (ys : List ℕ) → follows s last y ≡ false → settle s last (y ∷ ys) ≡ as_item (told_at s last) ∷ settle s y ys
  unfolding settle
  settle_other last y ys e = rw e

  pub settled_end : settled s [] ≡ []
  unfolding settled
  settled_end = refl

  pub settled_more : (x : ℕ) (xs : List ℕ) → settled s (x ∷ xs) ≡ settle s x xs
  unfolding settled
  settled_more x xs = refl

  -- ---- it ascends: its first record is that of `last`

  settle_below : (k : Bytes) (last : ℕ) (ys : List ℕ) → bytes k (key_at s last) ≡ Less → Below bytes k (settle s last ys)
  settle_below k last [] h = rw (settle_end last) h
  settle_below k last (y ∷ ys) h = go (follows s last y) refl (λ g. settle_below k y ys g)
    where
      go : (b : Bool) → follows s last y ≡ b → (bytes k (key_at s y) ≡ Less → Below bytes k (settle s y ys)) → Below bytes k (settle s last (y ∷ ys))
      go true e i = rw (settle_same last y ys e) (i (rw (← follows_same s last y e) h))
      go false e i = rw (settle_other last y ys e) h

  pub settle_sorted : (last : ℕ) (ys : List ℕ) → 0 < last → Past 0 ys → Ascends s last ys → Sorted bytes (settle s last ys)
  settle_sorted last [] l p a = rw (settle_end last) (tt, tt)
  settle_sorted last (y ∷ ys) l (cons q p) a = go (follows s last y) refl (settle_sorted y ys q p a.1)
    where
      go : (b : Bool) → follows s last y ≡ b → Sorted bytes (settle s y ys) → Sorted bytes (settle s last (y ∷ ys))
      go true e i = rw (settle_same last y ys e) i
      go false e i = rw (settle_other last y ys e)
          (settle_below (key_at s last) y ys (most_apart (key_at s last) (key_at s y) a.0 (follows_apart s last y l e)), i)

  pub settled_sorted : (ys : List ℕ) → Past 0 ys → InOrder s ys → Sorted bytes (settled s ys)
  settled_sorted [] p a = rw settled_end tt
  settled_sorted (y ∷ ys) (cons q p) a = rw (settled_more y ys) (settle_sorted y ys q p a)

  -- and has something to say of that record
  settle_says : (last : ℕ) (ys : List ℕ) (o : Said) → later (lookup bytes (key_at s last) (settle s last ys)) o ≡ lookup bytes (key_at s last) (settle s last ys)
  settle_says last [] o = rw (settle_end last, strings.self (key_at s last))
  settle_says last (y ∷ ys) o = go (follows s last y) refl (settle_says y ys o)
    where
      go : (b : Bool) → follows s last y ≡ b → later (lookup bytes (key_at s y) (settle s y ys)) o ≡ lookup bytes (key_at s y) (settle s y ys) →
          later (lookup bytes (key_at s last) (settle s last (y ∷ ys))) o ≡ lookup bytes (key_at s last) (settle s last (y ∷ ys))
      go true e i = rw (settle_same last y ys e, follows_same s last y e) i
      go false e i = rw (settle_other last y ys e, strings.self (key_at s last))

  -- ---- a message put into its place: it counts where no later one of its record does

  module _ (k : Bytes) (x : ℕ) (pos : 0 < x) where
    -- in front of y
    next_says : (y : ℕ) (ys : List ℕ) → 0 < y → Past 0 ys → Ascends s y ys → AtMost strings (key_at s x) (key_at s y) →
        lookup bytes k (settle s x (y ∷ ys)) ≡ later (lookup bytes k (settle s y ys)) (says_at s k x none)
    next_says y ys l p a h = go (follows s x y) refl (bytes k (key_at s x)) refl
      where
        go : (b : Bool) → follows s x y ≡ b → (o : Ordering) → bytes k (key_at s x) ≡ o →
            lookup bytes k (settle s x (y ∷ ys)) ≡ later (lookup bytes k (settle s y ys)) (own o (some (told_at s x).change) none)
        go true e Less c = rw (settle_same x y ys e) (sym (later_none (lookup bytes k (settle s y ys))))
        go true e Equal c =
            let q : k ≡ key_at s y = strings.same k (key_at s x) c ∙ follows_same s x y e in
            rw (settle_same x y ys e, q) (sym (settle_says y ys (some (told_at s x).change)))
        go true e Greater c = rw (settle_same x y ys e) (sym (later_none (lookup bytes k (settle s y ys))))
        go false e Less c = rw (settle_other x y ys e, c) (sym (later_none (lookup bytes k (settle s y ys))))
        go false e Equal c =
            let b : Below bytes (key_at s x) (settle s y ys) = settle_below (key_at s x) y ys (most_apart (key_at s x) (key_at s y) h (follows_apart s x y pos e)) in
            rw (settle_other x y ys e, absent_at strings k (key_at s x) (settle s y ys) c b (settle_sorted y ys l p a), c)
        go false e Greater c = rw (settle_other x y ys e, c) (sym (later_none (lookup bytes k (settle s y ys))))

    -- a record before it goes first
    own_later : (o : Ordering) (c : Change Bytes) (m n : Said) → own o (some c) (later m n) ≡ later (own o (some c) m) n
    own_later Less c m n = refl
    own_later Equal c m n = refl
    own_later Greater c m n = refl

    settle_inserted : (last : ℕ) (ys : List ℕ) → 0 < last → bytes (key_at s last) (key_at s x) ≡ Less → Past x ys → Ascends s last ys →
        lookup bytes k (settle s last (insert s x ys)) ≡ later (lookup bytes k (settle s last ys)) (says_at s k x none)
    settle_inserted last [] l u p a =
        rw (insert_none s x, settle_other last x [] (under_apart s last x x (below l u) (at_most_self strings (key_at s x))), settle_end last, settle_end x)
        (own_later (bytes k (key_at s last)) (told_at s last).change none (says_at s k x none))
    settle_inserted last (y ∷ ys) l u (cons q p) a = go (side (bytes (key_at s x) (key_at s y))) (λ v. settle_inserted y ys (omega (arith, q)) v p a.1)
      where
        pos_y : 0 < y
        pos_y = omega (arith, q)

        split : (b : Bool) → follows s last y ≡ b →
            lookup bytes k (settle s y (insert s x ys)) ≡ later (lookup bytes k (settle s y ys)) (says_at s k x none) →
            lookup bytes k (settle s last (y ∷ insert s x ys)) ≡ later (lookup bytes k (settle s last (y ∷ ys))) (says_at s k x none)
        split true e i = rw (settle_same last y (insert s x ys) e, settle_same last y ys e) i
        split false e i = rw (settle_other last y (insert s x ys) e, settle_other last y ys e, i)
            (own_later (bytes k (key_at s last)) (told_at s last).change (lookup bytes k (settle s y ys)) (says_at s k x none))

        go : Side (bytes (key_at s x) (key_at s y)) →
            (bytes (key_at s y) (key_at s x) ≡ Less → lookup bytes k (settle s y (insert s x ys)) ≡ later (lookup bytes k (settle s y ys)) (says_at s k x none)) →
            lookup bytes k (settle s last (insert s x (y ∷ ys))) ≡ later (lookup bytes k (settle s last (y ∷ ys))) (says_at s k x none)
        go (front f) i =
            rw (
              insert_front s x y ys q f,
              settle_other last x (y ∷ ys) (under_apart s last x x (below l u) (at_most_self strings (key_at s x))),
              next_says y ys pos_y (past_all x ys p) a.1 f,
              settle_other last y ys (under_apart s last x y (below l u) f),
            ) (own_later (bytes k (key_at s last)) (told_at s last).change (lookup bytes k (settle s y ys)) (says_at s k x none))
        go (behind b) i = rw (insert_behind s x y ys b) (split (follows s last y) refl (i (turned (key_at s x) (key_at s y) b)))

    pub settled_inserted : (ys : List ℕ) → Past x ys → InOrder s ys →
        lookup bytes k (settled s (insert s x ys)) ≡ later (lookup bytes k (settled s ys)) (says_at s k x none)
    settled_inserted [] p a = rw (insert_none s x, settled_more x [], settle_end x, settled_end)
    settled_inserted (y ∷ ys) (cons q p) a = go (side (bytes (key_at s x) (key_at s y)))
      where
        go : Side (bytes (key_at s x) (key_at s y)) → lookup bytes k (settled s (insert s x (y ∷ ys))) ≡ later (lookup bytes k (settled s (y ∷ ys))) (says_at s k x none)
        go (front f) = rw (insert_front s x y ys q f, settled_more x (y ∷ ys), settled_more y ys)
            (next_says y ys (omega (arith, q)) (past_all x ys p) a f)
        go (behind b) = rw (insert_behind s x y ys b, settled_more y (insert s x ys), settled_more y ys)
            (settle_inserted y ys (omega (arith, q)) (turned (key_at s x) (key_at s y) b) p a)

-- ---- the whole

pub misfit≢all : {X : Type 0} {t : Told} {B : change.Snapshot Bytes Bytes} → misfit t ≡ all B → X
misfit≢all e = never cc

-- a change, then another
pub two_changes : (o : Option Bytes) (c d : Said) → apply_at (apply_at o c) d ≡ apply_at o (later d c)
two_changes o c none = refl
two_changes o c (some d) = go d
  where
    go : (d : Change Bytes) → apply_at (apply_at o c) (some d) ≡ apply_at o (some d)
    go (announce n) = refl
    go (withdraw p) = refl
    go (update p n) = refl

module _ (s : Bytes) where
  pub messages_settled : {at stop : ℕ} {xs : List ℕ} → 0 < at → Messages s at xs stop → Sorted bytes (settled s (sorted s xs))
  messages_settled {xs = xs} l ms = settled_sorted s (sorted s xs) (messages_past s ms 0 l) (sorted_order s ms)

  -- the first message taken, then what the others leave
  first_settled : {at stop : ℕ} {xs : List ℕ} (A : change.Snapshot Bytes Bytes) → Sorted bytes A → 0 < at → (p : Payload s at) (ms : Messages s (at + size_at s at) xs stop) →
      apply bytes (after A s at) (settled s (sorted s xs)) ≡ apply bytes A (settled s (sorted s (at ∷ xs)))
  first_settled {at = x} {xs = xs} A t l p ms =
      ext strings _ _ (apply_sorted strings strings (after A s x) (settled s (sorted s xs)) o d) (apply_sorted strings strings A (settled s (sorted s (x ∷ xs))) t d')
      (λ k.
      rw (
        apply_lookup strings strings (after A s x) (settled s (sorted s xs)) o d k,
        one_lookup A (as_item (told_at s x)) t k,
        apply_lookup strings strings A (settled s (sorted s (x ∷ xs))) t d' k,
        sorted_more s x xs,
        settled_inserted s k x l (sorted s xs) (first_past s p ms) (sorted_order s ms),
      ) (two_changes (lookup bytes k A) (says_at s k x none) (lookup bytes k (settled s (sorted s xs)))))
    where
      o : Sorted bytes (after A s x)
      o = one_sorted A (as_item (told_at s x)) t

      d : Sorted bytes (settled s (sorted s xs))
      d = messages_settled (omega arith) ms

      d' : Sorted bytes (settled s (sorted s (x ∷ xs)))
      d' = messages_settled l (more p ms)

  pub taken_settled : {at stop : ℕ} {xs : List ℕ} (A B : change.Snapshot Bytes Bytes) → IsMap Snapshot A → 0 < at → Messages s at xs stop →
      take A (map (told_at s) xs) ≡ all B → B ≡ apply bytes A (settled s (sorted s xs))
  taken_settled A B m l done e =
      let q : A ≡ B = cc (take_none A) in
      rw (sorted_end s, settled_end s, apply_none bytes bytes A) (sym q)
  taken_settled A B m l (more {at = x} {xs = xs} p ms) e = go (wrong A s x) refl (taken_settled (after A s x) B (after_map A s x p m) (omega arith) ms)
    where
      go : (b : Bool) → wrong A s x ≡ b → (take (after A s x) (map (told_at s) xs) ≡ all B → B ≡ apply bytes (after A s x) (settled s (sorted s xs))) →
          B ≡ apply bytes A (settled s (sorted s (x ∷ xs)))
      go true w i = misfit≢all (sym (take_wrong A s x (map (told_at s) xs) p m.valid w) ∙ e)
      go false w i = i (sym (take_right A s x (map (told_at s) xs) p m.valid w) ∙ e) ∙ first_settled A m.sorted l p ms
