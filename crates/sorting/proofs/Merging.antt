-- Laws of merging: copying, weaving from the back, and both together.
use Prim.Native.Nat.{ℕ, suc, ◌+◌, ◌-◌, ◌≤◌, ◌<◌}
use mathlib.Core.Path.{◌≡◌, refl, sym, ap, subst, ◌∙◌}
use mathlib.Core.List.{List, [], ◌∷◌, ◌++◌, append-nil}
use mathlib.Core.Bool.{Bool, true, false}
use native.Mathlib.Omega.{arith}
use native.Mathlib.Numerals.{add-one}
use lib.ListN.{length, get_or, take, drop, set, length-set, length-append, length-drop, drop_of_length-le, take-append-drop}
use lib.Seq.{length-take-le, take_all, take_at, take-take, take-suc, drop-cons, append_snoc, get_or-set_same, get_or-set_other, get_or-take, get_or-drop, take-set-le, drop-set-lt, take-suc-set}
use Rattle.payload.specs.Content.{Bytes}
use Rattle.item.specs.Front.{front_key}
use Rattle.heard.specs.Place.{Payload, key_at, precedes}
use Rattle.heard.specs.Compare.{FrontOf}
use Rattle.sorting.specs.Sorted.{sorted}
use Rattle.sorting.specs.Sort.{Held, Weaves, Woven, Merges, SortedIs}
use Rattle.sorting.proofs.Precede.{precede_turn}
use Rattle.sorting.proofs.Sorting.{all_at, all_by, all_both, all_sorted, Climbing, climbing_of, climbing_join, climbing_first, climbing_last, behind_last, sorted_fixed, sorted_behind, sorted_pass}

-- ---- copy: the first k are copied

pub record Copying (from l₀ l : List ℕ) (k : ℕ) : Type 0 where
  pub long : length l ≡ length from
  pub same : length l ≡ length l₀
  pub is : take k l ≡ take k from

pub copy_start : (from l : List ℕ) → length l ≡ length from → Copying from l l 0
copy_start from l e = record { long = e; same = refl; is = refl }

module _ (from l₀ l : List ℕ) (k : ℕ) (t : Copying from l₀ l k) where
  pub copy_at : k < length from → k < length l
  copy_at h = omega (arith, t.long)

  pub copy_again : k < length from → Copying from l₀ (set l k (get_or from k 0)) (k + 1)
  copy_again h = record {
    long = length-set l k (get_or from k 0) ∙ t.long;
    same = length-set l k (get_or from k 0) ∙ t.same;
    is = rw add-one (take-suc-set l k (get_or from k 0) (copy_at h) ∙ ap (λ (r : List ℕ). r ++ (get_or from k 0 ∷ [])) t.is ∙ sym (take-suc from k 0 h));
  }

  pub copy_end : length from ≤ k → l ≡ from
  copy_end h = sym (take_all k l (omega (arith, t.long))) ∙ t.is ∙ take_all k from h

pub ruleset copying = (copy_start, copy_at, copy_again, copy_end)

-- ---- weave: the first i, the first j of the copy, and behind them what is merged

pub record Weaving (s : Bytes) (l₀ : List ℕ) (m : ℕ) (c l : List ℕ) (i j x y p q : ℕ) : Type 0 where
  pub left_some : 1 ≤ i
  pub right_some : 1 ≤ j
  pub room : i + j ≤ length l
  pub few : j ≤ length c
  pub long : length l ≡ length l₀
  pub left_held : (k : ℕ) → k < i → Payload s (get_or l k 0)
  pub right_held : Held s c
  pub x_is : x ≡ get_or l (i - 1) 0
  pub y_is : y ≡ get_or c (j - 1) 0
  pub x_front : FrontOf s p x
  pub y_front : FrontOf s q y
  pub left : Climbing s (take i l ++ drop (i + j) l)
  pub right : Climbing s (take j c ++ drop (i + j) l)
  pub same : sorted s (take i l ++ (take j c ++ drop (i + j) l)) ≡ sorted s (take m l₀ ++ c)

module _ (s : Bytes) (l : List ℕ) (m : ℕ) (c : List ℕ) (h : Weaves s l m c) where
  pub weave_left_at : m - 1 < length l
  weave_left_at = omega (arith, h.left_some, h.long)

  pub weave_right_at : length c - 1 < length c
  weave_right_at = omega (arith, h.right_some)

  whole : length (take m l) ≡ m
  whole = length-take-le m l (omega (arith, h.long))

  left_good : (k : ℕ) → k < m → Payload s (get_or l k 0)
  left_good k d = subst (Payload s) (get_or-take m l k 0 d) (h.left_held.each k (omega (arith, whole)))

  pub weave_x : Payload s (get_or l (m - 1) 0)
  weave_x = left_good (m - 1) (omega (arith, h.left_some))

  pub weave_y : Payload s (get_or c (length c - 1) 0)
  weave_y = h.right_held.each (length c - 1) weave_right_at

  pub weave_start : (p q : ℕ) → p ≡ front_key (key_at s (get_or l (m - 1) 0)) → q ≡ front_key (key_at s (get_or c (length c - 1) 0)) →
      Weaving s l m c l m (length c) (get_or l (m - 1) 0) (get_or c (length c - 1) 0) p q
  weave_start p q e f = record {
    left_some = h.left_some;
    right_some = h.right_some;
    room = omega (arith, h.long);
    few = omega arith;
    long = refl;
    left_held = left_good;
    right_held = h.right_held;
    x_is = refl;
    y_is = refl;
    x_front = record { payload = weave_x; is = e };
    y_front = record { payload = weave_y; is = f };
    left = rw (none, append-nil (take m l)) (climbing_of s (take m l) h.left);
    right = rw (none, append-nil (take (length c) c), all) (climbing_of s c h.right);
    same = rw (none, append-nil (take (length c) c), all);
  }
    where
      none : drop (m + length c) l ≡ []
      none = let z : length l ≤ m + length c = omega (arith, h.long) in drop_of_length-le l z

      all : take (length c) c ≡ c
      all = take_all (length c) c (omega arith)

-- the last of the first i
take_last : (l : List ℕ) (i x : ℕ) → 1 ≤ i → i ≤ length l → x ≡ get_or l (i - 1) 0 → take i l ≡ take (i - 1) l ++ (x ∷ [])
take_last l i x h k e =
    let z : i ≡ suc (i - 1) = omega arith in
    ap (λ (n : ℕ). take n l) z ∙ take-suc l (i - 1) 0 (omega arith) ∙ ap (λ (v : ℕ). take (i - 1) l ++ (v ∷ [])) (sym e)

-- what is stored before the rest
drop_store : (l : List ℕ) (k n x : ℕ) → k < length l → n ≡ suc k → drop k (set l k x) ≡ x ∷ drop n l
drop_store l k n x h e =
    drop-cons (set l k x) k 0 (rw (length-set l k x) h) ∙ (λ i. get_or-set_same l k x 0 h i ∷ drop-set-lt (suc k) l k x (omega arith) i) ∙ ap (λ (w : ℕ). x ∷ drop w l) (sym e)

-- z goes to the end, behind the last of the other part
module _ (s : Bytes) (a : List ℕ) (z : ℕ) (b c : List ℕ) where
  moved_own : Climbing s ((a ++ (z ∷ [])) ++ c) → Climbing s (a ++ z ∷ c)
  moved_own d = subst (Climbing s) (append_snoc a z c) d

  moved_other : (k : ℕ) → length b ≡ k + 1 → precedes s z (get_or b k 0) ≡ false → Climbing s ((a ++ (z ∷ [])) ++ c) → Climbing s (b ++ c) → Climbing s (b ++ z ∷ c)
  moved_other k e f d g = climbing_join s (climbing_first s b c g) (behind_last s b k z (climbing_first s b c g) e f) (climbing_last s a (z ∷ c) (moved_own d))

module _ (s : Bytes) (l₀ : List ℕ) (m : ℕ) (c l : List ℕ) (i j x y p q : ℕ) (t : Weaving s l₀ m c l i j x y p q) where
  -- x goes to the end

  pub weave_x_at : i - 1 + j < length l
  weave_x_at = omega (arith, t.left_some, t.room)

  x_long : length (set l (i - 1 + j) x) ≡ length l
  x_long = length-set l (i - 1 + j) x

  pub weave_x_long : length (set l (i - 1 + j) x) ≡ length l₀
  weave_x_long = x_long ∙ t.long

  x_kept : take (i - 1) (set l (i - 1 + j) x) ≡ take (i - 1) l
  x_kept = take-set-le (i - 1) l (i - 1 + j) x (omega arith)

  x_last : take i l ≡ take (i - 1) l ++ (x ∷ [])
  x_last = take_last l i x t.left_some (omega (arith, t.room)) t.x_is

  x_end : drop (i - 1 + j) (set l (i - 1 + j) x) ≡ x ∷ drop (i + j) l
  x_end = drop_store l (i - 1 + j) (i + j) x weave_x_at (omega (arith, t.left_some))

  x_run : Climbing s ((take (i - 1) l ++ (x ∷ [])) ++ drop (i + j) l)
  x_run = subst (λ (r : List ℕ). Climbing s (r ++ drop (i + j) l)) x_last t.left

  y_get_d : get_or (take j c) (j - 1) 0 ≡ y
  y_get_d = get_or-take j c (j - 1) 0 (omega (arith, t.right_some)) ∙ sym t.y_is

  y_size : length (take j c) ≡ j - 1 + 1
  y_size = length-take-le j c t.few ∙ omega (arith, t.right_some)

  module _ (n : i - 1 ≡ 0 → ⊥) where
    pub weave_x_some : 1 ≤ i - 1
    weave_x_some = omega arith

    pub weave_x_next : i - 1 - 1 < length (set l (i - 1 + j) x)
    weave_x_next = omega (arith, x_long, t.room)

    x_still : (k : ℕ) → k < i - 1 → Payload s (get_or (set l (i - 1 + j) x) k 0)
    x_still k d = rw (get_or-set_other l (i - 1 + j) k x 0 (λ w. omega arith)) (t.left_held k (omega arith))

    pub weave_x_good : Payload s (get_or (set l (i - 1 + j) x) (i - 1 - 1) 0)
    weave_x_good = x_still (i - 1 - 1) (omega arith)

  module _ (b : Bool) (e : b ≡ precedes s y x) (f : b ≡ true) where
    x_left : Climbing s (take (i - 1) (set l (i - 1 + j) x) ++ drop (i - 1 + j) (set l (i - 1 + j) x))
    x_left = rw (x_kept, x_end) (moved_own s (take (i - 1) l) x (take j c) (drop (i + j) l) x_run)

    x_right : Climbing s (take j c ++ drop (i - 1 + j) (set l (i - 1 + j) x))
    x_right = rw x_end (moved_other s (take (i - 1) l) x (take j c) (drop (i + j) l) (j - 1) y_size (rw y_get_d (precede_turn s y x (sym e ∙ f))) x_run t.right)

    x_same : sorted s (take (i - 1) (set l (i - 1 + j) x) ++ (take j c ++ drop (i - 1 + j) (set l (i - 1 + j) x))) ≡ sorted s (take m l₀ ++ c)
    x_same = rw (x_kept, x_end)
        (sorted_behind s (take (i - 1) l) (take j c ++ x ∷ drop (i + j) l) (x ∷ (take j c ++ drop (i + j) l)) (sorted_pass s x (take j c) (drop (i + j) l))
        ∙ ap (sorted s) (sym (append_snoc (take (i - 1) l) x (take j c ++ drop (i + j) l)))
        ∙ ap (λ (r : List ℕ). sorted s (r ++ (take j c ++ drop (i + j) l))) (sym x_last)
        ∙ t.same)

    pub weave_x_end : i - 1 ≡ 0 → Woven s l₀ m c (set l (i - 1 + j) x) j
    weave_x_end z = record {
      long = weave_x_long;
      few = t.few;
      is =
          let d : i - 1 + j ≡ j = omega arith in
          let n : take (i - 1) (set l (i - 1 + j) x) ≡ [] = ap (λ (k : ℕ). take k (set l (i - 1 + j) x)) z in
          let w : take j c ++ drop (i - 1 + j) (set l (i - 1 + j) x) ≡ sorted s (take m l₀ ++ c) =
          sym (sorted_fixed s x_right) ∙ subst (λ (r : List ℕ). sorted s (r ++ (take j c ++ drop (i - 1 + j) (set l (i - 1 + j) x))) ≡ sorted s (take m l₀ ++ c)) n x_same in
          subst (λ (k : ℕ). take j c ++ drop k (set l (i - 1 + j) x) ≡ sorted s (take m l₀ ++ c)) d w;
    }

    pub weave_x_again : (i - 1 ≡ 0 → ⊥) → (g : ℕ) → g ≡ front_key (key_at s (get_or (set l (i - 1 + j) x) (i - 1 - 1) 0)) →
        Weaving s l₀ m c (set l (i - 1 + j) x) (i - 1) j (get_or (set l (i - 1 + j) x) (i - 1 - 1) 0) y g q
    weave_x_again n g r = record {
      left_some = omega arith;
      right_some = t.right_some;
      room = omega (arith, t.room, x_long);
      few = t.few;
      long = weave_x_long;
      left_held = x_still n;
      right_held = t.right_held;
      x_is = refl;
      y_is = t.y_is;
      x_front = record { payload = weave_x_good n; is = r };
      y_front = t.y_front;
      left = x_left;
      right = x_right;
      same = x_same;
    }

  -- y goes to the end

  pub weave_y_at : i + (j - 1) < length l
  weave_y_at = omega (arith, t.right_some, t.room)

  y_long : length (set l (i + (j - 1)) y) ≡ length l
  y_long = length-set l (i + (j - 1)) y

  pub weave_y_long : length (set l (i + (j - 1)) y) ≡ length l₀
  weave_y_long = y_long ∙ t.long

  y_kept : take i (set l (i + (j - 1)) y) ≡ take i l
  y_kept = take-set-le i l (i + (j - 1)) y (omega arith)

  y_last : take j c ≡ take (j - 1) c ++ (y ∷ [])
  y_last = take_last c j y t.right_some t.few t.y_is

  y_end : drop (i + (j - 1)) (set l (i + (j - 1)) y) ≡ y ∷ drop (i + j) l
  y_end = drop_store l (i + (j - 1)) (i + j) y weave_y_at (omega (arith, t.right_some))

  y_run : Climbing s ((take (j - 1) c ++ (y ∷ [])) ++ drop (i + j) l)
  y_run = subst (λ (r : List ℕ). Climbing s (r ++ drop (i + j) l)) y_last t.right

  x_get_d : get_or (take i l) (i - 1) 0 ≡ x
  x_get_d = get_or-take i l (i - 1) 0 (omega (arith, t.left_some)) ∙ sym t.x_is

  x_size : length (take i l) ≡ i - 1 + 1
  x_size = length-take-le i l (omega (arith, t.room)) ∙ omega (arith, t.left_some)

  module _ (n : j - 1 ≡ 0 → ⊥) where
    pub weave_y_some : 1 ≤ j - 1
    weave_y_some = omega arith

    pub weave_y_next : j - 1 - 1 < length c
    weave_y_next = omega (arith, t.few)

    pub weave_y_good : Payload s (get_or c (j - 1 - 1) 0)
    weave_y_good = t.right_held.each (j - 1 - 1) weave_y_next

  module _ (b : Bool) (e : b ≡ precedes s y x) (f : b ≡ false) where
    y_left : Climbing s (take i (set l (i + (j - 1)) y) ++ drop (i + (j - 1)) (set l (i + (j - 1)) y))
    y_left = rw (y_kept, y_end) (moved_other s (take (j - 1) c) y (take i l) (drop (i + j) l) (i - 1) x_size (rw x_get_d (sym e ∙ f)) y_run t.left)

    y_right : Climbing s (take (j - 1) c ++ drop (i + (j - 1)) (set l (i + (j - 1)) y))
    y_right = rw y_end (moved_own s (take (j - 1) c) y (take i l) (drop (i + j) l) y_run)

    y_same : sorted s (take i (set l (i + (j - 1)) y) ++ (take (j - 1) c ++ drop (i + (j - 1)) (set l (i + (j - 1)) y))) ≡ sorted s (take m l₀ ++ c)
    y_same = rw (y_kept, y_end)
        (ap (λ (r : List ℕ). sorted s (take i l ++ r)) (sym (append_snoc (take (j - 1) c) y (drop (i + j) l)))
        ∙ ap (λ (r : List ℕ). sorted s (take i l ++ (r ++ drop (i + j) l))) (sym y_last)
        ∙ t.same)

    pub weave_y_end : j - 1 ≡ 0 → Woven s l₀ m c (set l (i + (j - 1)) y) 0
    weave_y_end z = record {
      long = weave_y_long;
      few = omega arith;
      is =
          let d : i + (j - 1) ≡ i = omega arith in
          let n : take (j - 1) c ≡ [] = ap (λ (k : ℕ). take k c) z in
          let o : take i (set l (i + (j - 1)) y) ++ drop (i + (j - 1)) (set l (i + (j - 1)) y) ≡ set l (i + (j - 1)) y =
          ap (λ (k : ℕ). take i (set l (i + (j - 1)) y) ++ drop k (set l (i + (j - 1)) y)) d ∙ take-append-drop i (set l (i + (j - 1)) y) in
          let w : sorted s (take i (set l (i + (j - 1)) y) ++ drop (i + (j - 1)) (set l (i + (j - 1)) y)) ≡ sorted s (take m l₀ ++ c) =
          subst (λ (r : List ℕ). sorted s (take i (set l (i + (j - 1)) y) ++ (r ++ drop (i + (j - 1)) (set l (i + (j - 1)) y))) ≡ sorted s (take m l₀ ++ c)) n y_same in
          sym o ∙ sym (sorted_fixed s y_left) ∙ w;
    }

    pub weave_y_again : (j - 1 ≡ 0 → ⊥) → (g : ℕ) → g ≡ front_key (key_at s (get_or c (j - 1 - 1) 0)) →
        Weaving s l₀ m c (set l (i + (j - 1)) y) i (j - 1) x (get_or c (j - 1 - 1) 0) p g
    weave_y_again n g r = record {
      left_some = t.left_some;
      right_some = omega arith;
      room = omega (arith, t.room, y_long);
      few = omega (arith, t.few);
      long = weave_y_long;
      left_held = λ k d. rw (get_or-set_other l (i + (j - 1)) k y 0 (λ w. omega arith)) (t.left_held k d);
      right_held = t.right_held;
      x_is = t.x_is ∙ sym (get_or-set_other l (i + (j - 1)) (i - 1) y 0 (λ w. omega (arith, t.left_some)));
      y_is = refl;
      x_front = t.x_front;
      y_front = record { payload = weave_y_good n; is = r };
      left = y_left;
      right = y_right;
      same = y_same;
    }

pub ruleset weaving = (weave_left_at, weave_right_at, weave_x, weave_y, weave_start, weave_x_at, weave_x_long, weave_x_end, weave_x_some, weave_x_next, weave_x_good, weave_x_again, weave_y_at, weave_y_long, weave_y_end, weave_y_some, weave_y_next, weave_y_good, weave_y_again)

-- ---- merge

held_sorted : (s : Bytes) (l : List ℕ) → Held s l → Held s (sorted s l)
held_sorted s l h = record { each = all_at {P = Payload s} (all_sorted s (all_by l h.each)) }

pub sorted_is : (s : Bytes) (l₀ l : List ℕ) → Held s l₀ → l ≡ sorted s l₀ → SortedIs s l₀ l
sorted_is s l₀ l h e = record { held = subst (Held s) (sym e) (held_sorted s l₀ h); is = e }

pub held_take : (s : Bytes) (l : List ℕ) (n : ℕ) → Held s l → n ≤ length l → Held s (take n l)
held_take s l n h e = record { each = λ k d. let z : length (take n l) ≡ n = length-take-le n l e in subst (Payload s) (sym (get_or-take n l k 0 (omega arith))) (h.each k (omega arith)) }

pub held_drop : (s : Bytes) (l : List ℕ) (n : ℕ) → Held s l → Held s (drop n l)
held_drop s l n h = record { each = λ k d. let z : length (drop n l) ≡ length l - n = length-drop n l in subst (Payload s) (sym (get_or-drop n l k 0)) (h.each (n + k) (omega arith)) }

pub held_both : (s : Bytes) (l m : List ℕ) → Held s l → Held s m → Held s (l ++ m)
held_both s l m h k = record { each = all_at {P = Payload s} (all_both (all_by l h.each) (all_by m k.each)) }

module _ (s : Bytes) (l : List ℕ) (m : ℕ) (sp : List ℕ) (h : Merges s l m sp) where
  pub merge_none : m ≡ 0 → SortedIs s l l
  merge_none e = sorted_is s l l h.held (sym (subst (λ (k : ℕ). sorted s (drop k l) ≡ drop k l) e h.right))

  pub merge_short : length l ≤ m → SortedIs s l l
  merge_short e = sorted_is s l l h.held (sym (subst (λ (k : List ℕ). sorted s k ≡ k) (take_all m l e) h.left))

  module _ (i : m < length l) where
    pub merge_start : m ≤ length l
    merge_start = omega (arith, i)

    pub merge_here : Payload s (get_or l m 0)
    merge_here = h.held.each m i

    module _ (n : m ≡ 0 → ⊥) where
      pub merge_some : 1 ≤ m
      merge_some = omega arith

      pub merge_last : m - 1 < length l
      merge_last = omega (arith, i)

      pub merge_before : Payload s (get_or l (m - 1) 0)
      merge_before = h.held.each (m - 1) merge_last

      pub merge_no : (b : Bool) → b ≡ precedes s (get_or l m 0) (get_or l (m - 1) 0) → b ≡ false → SortedIs s l l
      merge_no b e f = sorted_is s l l h.held (sym (sorted_fixed s whole_run))
        where
          first : length (take m l) ≡ m - 1 + 1
          first = length-take-le m l merge_start ∙ omega arith

          seam : drop m l ≡ get_or l m 0 ∷ drop (suc m) l
          seam = drop-cons l m 0 i

          below : precedes s (get_or l m 0) (get_or (take m l) (m - 1) 0) ≡ false
          below = rw (get_or-take m l (m - 1) 0 (omega arith)) (sym e ∙ f)

          whole_run : Climbing s l
          whole_run = subst (Climbing s) (ap (λ (r : List ℕ). take m l ++ r) (sym seam) ∙ take-append-drop m l)
              (climbing_join s (climbing_of s (take m l) h.left) (behind_last s (take m l) (m - 1) (get_or l m 0) (climbing_of s (take m l) h.left) first below) (subst (Climbing s) seam (climbing_of s (drop m l) h.right)))

    pub merge_copies : length (take (length l - m) sp) ≡ length (take (length l - m) (drop m l))
    merge_copies = length-take-le (length l - m) sp h.room ∙ sym (length-take-le (length l - m) (drop m l) (rw (length-drop m l) (omega arith)))

    module _ (c : List ℕ) (e : c ≡ take (length l - m) (drop m l)) where
      copied : c ≡ drop m l
      copied = e ∙ take_all (length l - m) (drop m l) (rw (length-drop m l) (omega arith))

      copied_long : length c ≡ length l - m
      copied_long = ap length copied ∙ length-drop m l

      pub merge_spare_long : length (c ++ drop (length l - m) sp) ≡ length sp
      merge_spare_long = let z : length (drop (length l - m) sp) ≡ length sp - (length l - m) = length-drop (length l - m) sp in length-append c (drop (length l - m) sp) ∙ omega (arith, copied_long, h.room)

      pub merge_spare : length l - m ≤ length (c ++ drop (length l - m) sp)
      merge_spare = omega (arith, merge_spare_long, h.room)

      front : take (length l - m) (c ++ drop (length l - m) sp) ≡ drop m l
      front = take_at c (drop (length l - m) sp) (length l - m) copied_long ∙ copied

      pub merge_weaves : (m ≡ 0 → ⊥) → Weaves s l m (take (length l - m) (c ++ drop (length l - m) sp))
      merge_weaves n = rw front (record {
        left_held = held_take s l m h.held merge_start;
        right_held = held_drop s l m h.held;
        left = h.left;
        right = h.right;
        left_some = omega arith;
        right_some = rw (length-drop m l) (omega (arith, i));
        long = rw (length-drop m l) (omega (arith, i));
      })

      module _ (l' : List ℕ) (r : ℕ) (w : Woven s l m (take (length l - m) (c ++ drop (length l - m) sp)) l' r) where
        few : r ≤ length l - m
        few = let z : length (take (length l - m) (c ++ drop (length l - m) sp)) ≡ length l - m = length-take-le (length l - m) (c ++ drop (length l - m) sp) merge_spare in omega (arith, w.few)

        pub merge_few : r ≤ length (c ++ drop (length l - m) sp)
        merge_few = omega (arith, few, merge_spare)

        pub merge_fits : r ≤ length l'
        merge_fits = omega (arith, few, w.long)

        pub merge_back : length (take r l') ≡ length (take r (c ++ drop (length l - m) sp))
        merge_back = length-take-le r l' merge_fits ∙ sym (length-take-le r (c ++ drop (length l - m) sp) merge_few)

        module _ (d : List ℕ) (f : d ≡ take r (c ++ drop (length l - m) sp)) where
          pub merge_long : length (d ++ drop r l') ≡ length l
          merge_long =
              let z : length d ≡ r = ap length f ∙ length-take-le r (c ++ drop (length l - m) sp) merge_few in
              let y : length (drop r l') ≡ length l' - r = length-drop r l' in
              length-append d (drop r l') ∙ omega (arith, merge_fits, w.long)

          pub merge_done : SortedIs s l (d ++ drop r l')
          merge_done = sorted_is s l (d ++ drop r l') h.held
              (ap (λ (x : List ℕ). x ++ drop r l') (f ∙ sym (take-take r (length l - m) (c ++ drop (length l - m) sp) few))
              ∙ w.is
              ∙ ap (λ (x : List ℕ). sorted s (take m l ++ x)) front
              ∙ ap (sorted s) (take-append-drop m l))

pub ruleset merging = (length-take-le, merge_none, merge_short, merge_start, merge_here, merge_some, merge_last, merge_before, merge_no, merge_copies, merge_spare_long, merge_spare, merge_weaves, merge_few, merge_fits, merge_back, merge_long, merge_done)
