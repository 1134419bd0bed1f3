-- Laws of the sort by insertion: an offset goes down, each does.
use Prim.Native.Nat.{ℕ, ◌+◌, ◌-◌, ◌≤◌, ◌<◌}
use mathlib.Core.Path.{◌≡◌, refl, sym, ap, subst, ◌∙◌}
use mathlib.Core.List.{List}
use mathlib.Core.Bool.{Bool, true, false, not}
use borrow.Author.Tests.{not-true, not-false}
use native.Mathlib.Omega.{arith}
use native.Mathlib.Decide.{ℕ_discrete}
use lib.ListN.{length, get_or, set, length-set}
use lib.Seq.{set-get_or, set-set, get_or-set_same, get_or-set_other}
use Rattle.payload.specs.Content.{Bytes}
use Rattle.item.specs.Front.{front_key}
use Rattle.heard.specs.Place.{Payload, key_at, precedes}
use Rattle.heard.specs.Compare.{FrontOf}
use Rattle.sorting.specs.Sorted.{sorted}
use Rattle.sorting.specs.Sort.{Held, Climbs, Settles, Settled, SortedIs}
use Rattle.sorting.proofs.Precede.{precede_turn, not_above_trans}
use Rattle.sorting.proofs.Sorting.{sorted_swap, climbing_by, sorted_fixed}

pub held_set : (s : Bytes) (l : List ℕ) (j v : ℕ) → Held s l → Payload s v → Held s (set l j v)
held_set s l j v h p = record { each = λ k q. go k (rw (length-set l j v) at q) (ℕ_discrete k j) }
  where
    go : (k : ℕ) → k < length l → Dec (k ≡ j) → Payload s (get_or (set l j v) k 0)
    go k q (yes e) = rw (e, get_or-set_same l j v 0 (omega (arith, e))) p
    go k q (no e) = rw (get_or-set_other l j k v 0 e) (h.each k q)

-- ---- the order of places below i + 1, but for the one at j

module _ (s : Bytes) (f g : ℕ → ℕ) (i j k : ℕ) (n : k + 1 ≡ j) (o : (a b : ℕ) → a < b → b ≤ i → (b ≡ j → ⊥) → precedes s (f b) (f a) ≡ false) where
  climb_step : j ≤ i → g k ≡ f j → g j ≡ f k → ((m : ℕ) → (m ≡ j → ⊥) → (m ≡ k → ⊥) → g m ≡ f m) → precedes s (f j) (f k) ≡ true →
      (a b : ℕ) → a < b → b ≤ i → (b ≡ k → ⊥) → precedes s (g b) (g a) ≡ false
  climb_step z p q r t a b h l m = go (ℕ_discrete b j) (ℕ_discrete a k) (ℕ_discrete a j)
    where
      go : Dec (b ≡ j) → Dec (a ≡ k) → Dec (a ≡ j) → precedes s (g b) (g a) ≡ false
      go (yes e) (yes d) c = rw (e, d, p, q) (precede_turn s (f j) (f k) t)
      go (yes e) (no d) c = rw (e, q, r a (λ w. omega arith) d) (o a k (omega arith) (omega arith) (λ w. omega arith))
      go (no e) (yes d) c = rw (d, p, r b e m) (o j b (omega arith) l e)
      go (no e) (no d) (yes c) = rw (c, q, r b e m) (o k b (omega arith) l e)
      go (no e) (no d) (no c) = rw (r b e m, r a c d) (o a b h l e)

  climb_stop : j ≤ i → precedes s (f j) (f k) ≡ false → (a b : ℕ) → a < b → b ≤ i → precedes s (f b) (f a) ≡ false
  climb_stop z t a b h l = go (ℕ_discrete b j) (ℕ_discrete a k)
    where
      go : Dec (b ≡ j) → Dec (a ≡ k) → precedes s (f b) (f a) ≡ false
      go (yes e) (yes d) = rw (e, d) t
      go (yes e) (no d) = rw e (not_above_trans s (f a) (f k) (f j) (o a k (omega arith) (omega arith) (λ w. omega arith)) t)
      go (no e) d = o a b h l e

-- ---- settle: x, with the front p, goes down and stands at j; the buffer has another copy of what stood there

pub record Settling (s : Bytes) (l₀ : List ℕ) (i x p : ℕ) (l : List ℕ) (j : ℕ) : Type 0 where
  pub place : j ≤ i
  pub within : i < length l
  pub long : length l ≡ length l₀
  pub held : Held s l
  pub front : FrontOf s p x
  pub same : sorted s (set l j x) ≡ sorted s l₀
  pub order : Climbs s l₀ i → (a b : ℕ) → a < b → b ≤ i → (b ≡ j → ⊥) → precedes s (get_or (set l j x) b 0) (get_or (set l j x) a 0) ≡ false

module _ (s : Bytes) (l : List ℕ) (i : ℕ) (h : Settles s l i) where
  pub settle_good : Payload s (get_or l i 0)
  settle_good = h.held.each i h.within

  pub settle_start : (p : ℕ) → p ≡ front_key (key_at s (get_or l i 0)) → Settling s l i (get_or l i 0) p l i
  settle_start p e = record {
    place = omega arith;
    within = h.within;
    long = refl;
    held = h.held;
    front = record { payload = settle_good; is = e };
    same = rw (set-get_or l i 0);
    order = λ c a b p q n. rw (set-get_or l i 0) (c.up a b p (omega arith));
  }

module _ (s : Bytes) (l₀ : List ℕ) (i x p : ℕ) (l : List ℕ) (j : ℕ) (t : Settling s l₀ i x p l j) where
  pub settle_at : j < length l
  settle_at = omega (arith, t.place, t.within)

  stands : length (set l j x) ≡ length l₀
  stands = length-set l j x ∙ t.long

  pub settle_zero : 0 < length l
  settle_zero = omega (arith, t.within)

  module _ (h : 0 < j) where
    back : j - 1 + 1 ≡ j
    back = omega arith

    pub settle_above : j - 1 + 1 < length l
    settle_above = omega (arith, t.place, t.within)

    pub settle_below : j - 1 < length l
    settle_below = omega (arith, t.place, t.within)

    pub settle_other : Payload s (get_or l (j - 1) 0)
    settle_other = t.held.each (j - 1) settle_below

    pub settle_other_front : (q : ℕ) → q ≡ front_key (key_at s (get_or l (j - 1) 0)) → FrontOf s q (get_or l (j - 1) 0)
    settle_other_front q e = record { payload = settle_other; is = e }

    apart : j - 1 ≡ j → ⊥
    apart e = omega arith

    there : get_or (set l j x) (j - 1) 0 ≡ get_or l (j - 1) 0
    there = get_or-set_other l j (j - 1) x 0 apart

    here : get_or (set l j x) j 0 ≡ x
    here = get_or-set_same l j x 0 settle_at

    lower : precedes s x (get_or l (j - 1) 0) ≡ true → Settling s l₀ i x p (set l j (get_or l (j - 1) 0)) (j - 1)
    lower e = record {
      place = omega (arith, t.place);
      within = rw (length-set l j (get_or l (j - 1) 0)) t.within;
      long = length-set l j (get_or l (j - 1) 0) ∙ t.long;
      held = held_set s l j (get_or l (j - 1) 0) t.held settle_other;
      front = t.front;
      same = ap (sorted s) swap ∙ sorted_swap s (set l j x) j (j - 1) (rw (length-set l j x) settle_at) (rw (length-set l j x) settle_below) ∙ t.same;
      order = λ c. climb_step s (λ (m : ℕ). get_or (set l j x) m 0) (λ (m : ℕ). get_or (set (set l j (get_or l (j - 1) 0)) (j - 1) x) m 0) i j (j - 1) (omega arith) (t.order c) t.place
          (get_or-set_same (set l j (get_or l (j - 1) 0)) (j - 1) x 0 (rw (length-set l j (get_or l (j - 1) 0)) settle_below) ∙ sym here)
          (get_or-set_other (set l j (get_or l (j - 1) 0)) (j - 1) j x 0 (λ w. apart (sym w)) ∙ get_or-set_same l j (get_or l (j - 1) 0) 0 settle_at ∙ sym there)
          (λ m p q. get_or-set_other (set l j (get_or l (j - 1) 0)) (j - 1) m x 0 q ∙ get_or-set_other l j m (get_or l (j - 1) 0) 0 p ∙ sym (get_or-set_other l j m x 0 p))
          (rw (here, there) e);
    }
      where
        swap : set (set l j (get_or l (j - 1) 0)) (j - 1) x ≡ set (set (set l j x) j (get_or (set l j x) (j - 1) 0)) (j - 1) (get_or (set l j x) j 0)
        swap = rw (here, there, set-set l j x (get_or l (j - 1) 0))

    pub settle_again : (r : Bool) → r ≡ precedes s x (get_or l (j - 1) 0) → not r ≡ false → Settling s l₀ i x p (set l (j - 1 + 1) (get_or l (j - 1) 0)) (j - 1)
    settle_again r f g = rw back (lower (sym f ∙ not-false r g))

    pub settle_stop : (r : Bool) → r ≡ precedes s x (get_or l (j - 1) 0) → not r ≡ true → Settled s l₀ (set l (j - 1 + 1) x) i
    settle_stop r f g = rw back (rest (sym f ∙ not-true r g))
      where
        rest : precedes s x (get_or l (j - 1) 0) ≡ false → Settled s l₀ (set l j x) i
        rest e = record {
          held = held_set s l j x t.held t.front.payload;
          long = stands;
          same = t.same;
          order = λ c. record { up = λ a b p q. climb_stop s (λ (m : ℕ). get_or (set l j x) m 0) (λ (m : ℕ). m) i j (j - 1) (omega arith) (t.order c) t.place (rw (here, there) e) a b p (omega arith) };
        }

  pub settle_end : j ≤ 0 → Settled s l₀ (set l 0 x) i
  settle_end h = let z : j ≡ 0 = omega arith in subst (λ (k : ℕ). Settled s l₀ (set l k x) i) z (record {
    held = held_set s l j x t.held t.front.payload;
    long = stands;
    same = t.same;
    order = λ c. record { up = λ a b p q. t.order c a b p (omega arith) (λ w. omega arith) };
  })

pub ruleset settling = (settle_zero, settle_above, settle_good, settle_start, settle_at, settle_below, settle_other, settle_other_front, settle_again, settle_stop, settle_end)

-- ---- settle_all: the first i went down

pub record Lining (s : Bytes) (l₀ l : List ℕ) (i : ℕ) : Type 0 where
  pub held : Held s l
  pub long : length l ≡ length l₀
  pub same : sorted s l ≡ sorted s l₀
  pub order : Climbs s l i

pub line_start : (s : Bytes) (l : List ℕ) → Held s l → Lining s l l 0
line_start s l h = record { held = h; long = refl; same = refl; order = record { up = λ a b p q. absurd (omega arith) } }

module _ (s : Bytes) (l₀ l : List ℕ) (i : ℕ) (t : Lining s l₀ l i) where
  pub line_settles : i < length l → Settles s l i
  line_settles h = record { held = t.held; within = h }

  pub line_again : (m : List ℕ) → Settled s l m i → Lining s l₀ m (i + 1)
  line_again m d = record { held = d.held; long = d.long ∙ t.long; same = d.same ∙ t.same; order = d.order t.order }

  pub line_end : length l ≤ i → SortedIs s l₀ l
  line_end h = record { held = t.held; is = sym (sorted_fixed s (climbing_by s l (λ a b p q. t.order.up a b p (omega arith)))) ∙ t.same }

pub ruleset lining = (line_start, line_settles, line_again, line_end)
