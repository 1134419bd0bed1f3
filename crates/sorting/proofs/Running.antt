-- Laws of runs: stretch after stretch is put in order.
use Prim.Native.Nat.{ℕ, ◌+◌, ◌-◌, ◌≤◌, ◌<◌}
use mathlib.Core.Path.{◌≡◌, refl, sym, ap, subst, ◌∙◌}
use mathlib.Core.List.{List, [], ◌++◌, append-nil, append_assoc}
use native.Mathlib.Omega.{arith}
use lib.ListN.{length, take, drop, length-append, length-drop, drop_of_length-le, take-append-drop}
use lib.Seq.{length-take-le, take_all, take_at, take-take, take-add, drop_at, drop-drop}
use mathlib.Core.Bool.{cond}
use native.Mathlib.Decide.{dec_le}
use Rattle.std.specs.Ordering.{MatchOrdering, nat_cmp, ord_min, is_lt}
use Rattle.std.specs.declared.cmp.Ordering.{Ordering}
use Rattle.std.specs.declared.cmp.Ordering.TheVariants.{Less, Equal, Greater}
use Rattle.std.proofs.lemmas.Cmp.{ranked}
use Rattle.payload.specs.Content.{Bytes}
use Rattle.sorting.specs.Sorted.{sorted}
use Rattle.sorting.specs.Sort.{Held, Merges, SortedIs, Runs, last, more, RunsAre, Doubles}
use Rattle.sorting.proofs.Sorting.{climbing_sorted, sorted_fixed, sorted_first, sorted_behind, length_sorted}
use Rattle.sorting.proofs.Merging.{held_take, held_drop, held_both}

pub sorted_twice : (s : Bytes) (l : List ℕ) → sorted s (sorted s l) ≡ sorted s l
sorted_twice s l = sorted_fixed s (climbing_sorted s l)

-- ---- the first run, and those behind it

module _ (s : Bytes) (w : ℕ) where
  run_first : {l : List ℕ} → Runs s w l → w ≤ length l → sorted s (take w l) ≡ take w l
  run_first (last {l} p q) h = rw (take_all w l p) q
  run_first (more p q r) h = q

  run_behind : {l : List ℕ} → Runs s w l → w ≤ length l → Runs s w (drop w l)
  unfolding sorted
  run_behind (last {l} p q) h = rw (drop_of_length-le l p) (last {l = []} (omega arith) refl)
  run_behind (more p q r) h = r

  pub run_only : {l : List ℕ} → Runs s w l → length l ≤ w → sorted s l ≡ l
  run_only (last p q) h = q
  run_only (more {l} p q r) h = subst (λ (x : List ℕ). sorted s x ≡ x) (take_all w l h) q

-- ---- k from a on are sorted, or replaced by a merge of theirs

module _ (s : Bytes) (l : List ℕ) (a k : ℕ) (m : List ℕ) (h : Held s l) (d : SortedIs s (take k (drop a l)) m) (e : a + k ≤ length l) where
  front : length (take a l) ≡ a
  front = length-take-le a l (omega arith)

  behind : length (drop a l) ≡ length l - a
  behind = length-drop a l

  size : length m ≡ k
  size = ap length d.is ∙ length_sorted s (take k (drop a l)) ∙ length-take-le k (drop a l) (omega (arith, behind))

  part_long : length (take a l ++ (m ++ drop k (drop a l))) ≡ length l
  part_long =
      let z : length (drop k (drop a l)) ≡ length (drop a l) - k = length-drop k (drop a l) in
      let y : length (m ++ drop k (drop a l)) ≡ length m + length (drop k (drop a l)) = length-append m (drop k (drop a l)) in
      length-append (take a l) (m ++ drop k (drop a l)) ∙ omega (arith, front, behind, size)

  part_held : Held s (take a l ++ (m ++ drop k (drop a l)))
  part_held = held_both s (take a l) (m ++ drop k (drop a l)) (held_take s l a h (omega arith)) (held_both s m (drop k (drop a l)) d.held (held_drop s (drop a l) k (held_drop s l a h)))

  part_same : sorted s (take a l ++ (m ++ drop k (drop a l))) ≡ sorted s l
  part_same =
      sorted_behind s (take a l) (m ++ drop k (drop a l)) (drop a l)
      (ap (λ (r : List ℕ). sorted s (r ++ drop k (drop a l))) d.is ∙ sorted_first s (take k (drop a l)) (drop k (drop a l)) ∙ ap (sorted s) (take-append-drop k (drop a l)))
      ∙ ap (sorted s) (take-append-drop a l)

  part_run : sorted s m ≡ m
  part_run = ap (sorted s) d.is ∙ sorted_twice s (take k (drop a l)) ∙ sym d.is

  both : length (take a l ++ m) ≡ a + k
  both = length-append (take a l) m ∙ omega (arith, front, size)

  part_front : take (a + k) (take a l ++ (m ++ drop k (drop a l))) ≡ take a l ++ m
  part_front = ap (take (a + k)) (sym (append_assoc (take a l) m (drop k (drop a l)))) ∙ take_at (take a l ++ m) (drop k (drop a l)) (a + k) both

  part_rest : drop (a + k) (take a l ++ (m ++ drop k (drop a l))) ≡ drop k (drop a l)
  part_rest = ap (drop (a + k)) (sym (append_assoc (take a l) m (drop k (drop a l)))) ∙ drop_at (take a l ++ m) (drop k (drop a l)) (a + k) both

-- ---- the first a are runs of the width w

pub record Built (s : Bytes) (l₀ l : List ℕ) (w a : ℕ) : Type 0 where
  pub held : Held s l
  pub long : length l ≡ length l₀
  pub small : a ≤ length l
  pub same : sorted s l ≡ sorted s l₀
  pub runs : (t : List ℕ) → Runs s w t → Runs s w (take a l ++ t)

built_start : (s : Bytes) (l : List ℕ) (w : ℕ) → Held s l → Built s l l w 0
built_start s l w h = record { held = h; long = refl; small = omega arith; same = refl; runs = λ t r. r }

module _ (s : Bytes) (l₀ l : List ℕ) (w a : ℕ) (t : Built s l₀ l w a) where
  built_again : (m : List ℕ) → a + w ≤ length l → SortedIs s (take w (drop a l)) m → Built s l₀ (take a l ++ (m ++ drop w (drop a l))) w (a + w)
  built_again m e d = record {
    held = part_held s l a w m t.held d e;
    long = part_long s l a w m t.held d e ∙ t.long;
    small = omega (arith, part_long s l a w m t.held d e);
    same = part_same s l a w m t.held d e ∙ t.same;
    runs = λ u r. rw (part_front s l a w m t.held d e, append_assoc (take a l) m u) (t.runs (m ++ u) (more
        (omega (arith, length-append m u, size s l a w m t.held d e))
        (rw (take_at m u w (size s l a w m t.held d e)) (part_run s l a w m t.held d e))
        (rw (drop_at m u w (size s l a w m t.held d e)) r)));
  }

  built_last : (m : List ℕ) → length l - a ≤ w → SortedIs s (take (length l - a) (drop a l)) m → RunsAre s l₀ w (take a l ++ (m ++ drop (length l - a) (drop a l)))
  built_last m b d =
      let e : a + (length l - a) ≤ length l = omega (arith, t.small) in
      let z : length (drop a l) ≤ length l - a = rw (length-drop a l) (omega arith) in
      record {
        held = part_held s l a (length l - a) m t.held d e;
        same = part_same s l a (length l - a) m t.held d e ∙ t.same;
        runs = rw (drop_of_length-le (drop a l) z, append-nil m) (t.runs m (last (omega (arith, size s l a (length l - a) m t.held d e)) (part_run s l a (length l - a) m t.held d e)));
      }

  built_none : length l - a ≤ w → sorted s (drop a l) ≡ drop a l → RunsAre s l₀ w l
  built_none b e = record {
    held = t.held;
    same = t.same;
    runs = subst (Runs s w) (take-append-drop a l) (t.runs (drop a l) (last (rw (length-drop a l) b) e));
  }

-- ---- where a run ends that starts at a, of so many in all

module _ (a w n e : ℕ) (f : e ≡ ord_min nat_cmp (a + w) n) where
  pub end_inner : a + w ≤ n → e ≡ a + w
  end_inner h = f ∙ go (nat_cmp n (a + w)) (ranked n (a + w) (nat_cmp n (a + w)) refl)
    where
      go : (r : Ordering) → MatchOrdering r (n < a + w) (n ≡ a + w) (a + w < n) → cond (is_lt r) n (a + w) ≡ a + w
      go Less k = absurd (omega arith)
      go Equal k = refl
      go Greater k = refl

  pub end_last : n ≤ a + w → e ≡ n
  end_last h = f ∙ go (nat_cmp n (a + w)) (ranked n (a + w) (nat_cmp n (a + w)) refl)
    where
      go : (r : Ordering) → MatchOrdering r (n < a + w) (n ≡ a + w) (a + w < n) → cond (is_lt r) n (a + w) ≡ n
      go Less k = refl
      go Equal k = sym k
      go Greater k = absurd (omega arith)

  pub end_within : e ≤ n
  end_within = go (dec_le n (a + w))
    where
      go : Dec (n ≤ a + w) → e ≤ n
      go (yes h) = omega (arith, end_last h)
      go (no h) = omega (arith, end_inner (omega arith))

  pub end_behind : a < n → a ≤ e
  end_behind h = go (dec_le n (a + w))
    where
      go : Dec (n ≤ a + w) → a ≤ e
      go (yes k) = omega (arith, end_last k)
      go (no k) = omega (arith, end_inner (omega arith))

  pub end_some : 1 ≤ w → a < n → a < e
  end_some g h = go (dec_le n (a + w))
    where
      go : Dec (n ≤ a + w) → a < e
      go (yes k) = omega (arith, end_last k)
      go (no k) = omega (arith, end_inner (omega arith))

  pub end_few : e - a ≤ w
  end_few = go (dec_le n (a + w))
    where
      go : Dec (n ≤ a + w) → e - a ≤ w
      go (yes k) = omega (arith, end_last k)
      go (no k) = omega (arith, end_inner (omega arith))

-- ---- settle_runs

pub settle_runs_start : (s : Bytes) (l : List ℕ) → Held s l → Built s l l 7 0
settle_runs_start s l h = built_start s l 7 h

module _ (s : Bytes) (l₀ l : List ℕ) (w a : ℕ) (t : Built s l₀ l w a) where
  built_empty : length l₀ ≤ a → RunsAre s l₀ w l
  unfolding sorted
  built_empty h =
      let z : length l ≤ a = omega (arith, t.long) in
      built_none s l₀ l w a t (omega arith) (rw (drop_of_length-le l z))

module _ (s : Bytes) (l₀ l : List ℕ) (a : ℕ) (t : Built s l₀ l 7 a) where
  pub runs_none : length l₀ ≤ a → RunsAre s l₀ 7 l
  runs_none = built_empty s l₀ l 7 a t

  module _ (e : ℕ) (f : e ≡ ord_min nat_cmp (a + 7) (length l)) where
    pub runs_part : a < length l₀ → Held s (take (e - a) (drop a l))
    runs_part h = held_take s (drop a l) (e - a) (held_drop s l a t.held) (rw (length-drop a l) (omega (arith, end_within a 7 (length l) e f)))

    module _ (m : List ℕ) (d : SortedIs s (take (e - a) (drop a l)) m) where
      pub runs_again : 7 < length l₀ - a → Built s l₀ (take a l ++ (m ++ drop (e - a) (drop a l))) 7 (a + 7)
      runs_again h =
          let k : a + 7 ≤ length l = omega (arith, t.long) in
          let z : e - a ≡ 7 = omega (arith, end_inner a 7 (length l) e f k) in
          rw z (built_again s l₀ l 7 a t m k (subst (λ (n : ℕ). SortedIs s (take n (drop a l)) m) z d))

      pub runs_last : length l₀ - a ≤ 7 → RunsAre s l₀ 7 (take a l ++ (m ++ drop (e - a) (drop a l)))
      runs_last h =
          let k : length l ≤ a + 7 = omega (arith, t.long) in
          let z : e - a ≡ length l - a = ap (λ (n : ℕ). n - a) (end_last a 7 (length l) e f k) in
          rw z (built_last s l₀ l 7 a t m (omega arith) (subst (λ (n : ℕ). SortedIs s (take n (drop a l)) m) z d))

pub ruleset settles_runs = (length-take-le, end_within, end_behind, settle_runs_start, runs_none, runs_part, runs_again, runs_last)

-- ---- merge_runs

pub record Doubling (s : Bytes) (l₀ : List ℕ) (w : ℕ) (l sp : List ℕ) (a : ℕ) : Type 0 where
  pub some : 1 ≤ w
  pub small : w ≤ 448
  pub room : length sp ≡ 448
  pub built : Built s l₀ l (w + w) a
  pub rest : Runs s w (drop a l)

pub double_start : (s : Bytes) (l : List ℕ) (w : ℕ) (sp : List ℕ) → Doubles s l w sp → Doubling s l w l sp 0
double_start s l w sp h = record { some = h.some; small = h.small; room = h.room; built = built_start s l (w + w) h.held; rest = h.runs }

module _ (s : Bytes) (l : List ℕ) (w : ℕ) (sp : List ℕ) (h : Doubles s l w sp) where
  pub double_some : 1 ≤ w + w
  double_some = omega (arith, h.some)

  pub double_step : w + w ≡ 0 → ⊥
  double_step e = omega (arith, h.some)

module _ (s : Bytes) (l₀ : List ℕ) (w : ℕ) (l sp : List ℕ) (a : ℕ) (t : Doubling s l₀ w l sp a) where
  pub double_none : length l₀ ≤ a → RunsAre s l₀ (w + w) l
  double_none = built_empty s l₀ l (w + w) a t.built

  long : length (drop a l) ≡ length l - a
  long = length-drop a l

  -- the next k: a run and some of the next, or no more than a run
  module _ (k : ℕ) (c : k ≤ w + w) (d : k ≤ length (drop a l)) where
    pair : length (take k (drop a l)) ≡ k
    pair = length-take-le k (drop a l) d

    second : w ≤ k → drop w (take k (drop a l)) ≡ take (k - w) (drop w (drop a l))
    second b =
        let z : k ≡ w + (k - w) = omega arith in
        ap (λ (n : ℕ). drop w (take n (drop a l))) z ∙ ap (drop w) (take-add w (k - w) (drop a l)) ∙ drop_at (take w (drop a l)) (take (k - w) (drop w (drop a l))) w (length-take-le w (drop a l) (omega arith))

    pair_merges : w < k → sorted s (take (k - w) (drop w (drop a l))) ≡ take (k - w) (drop w (drop a l)) → Merges s (take k (drop a l)) w sp
    pair_merges b e = record {
      held = held_take s (drop a l) k (held_drop s l a t.built.held) d;
      room = omega (arith, pair, t.small, t.room);
      left = rw (take-take w k (drop a l) (omega arith)) (run_first s w t.rest (omega arith));
      right = rw (second (omega arith)) e;
    }

    run_merges : k ≤ w → length (drop a l) ≤ k → Merges s (take k (drop a l)) w sp
    unfolding sorted
    run_merges b e = rw (take_all k (drop a l) e) (record {
      held = held_drop s l a t.built.held;
      room = omega (arith, t.room);
      left = rw (take_all w (drop a l) (omega arith)) (run_only s w t.rest (omega arith));
      right = rw (drop_of_length-le (drop a l) {i = w} (omega arith));
    })

  module _ (e : ℕ) (f : e ≡ ord_min nat_cmp (a + (w + w)) (length l)) where
    pub double_merges : a < length l₀ → Merges s (take (e - a) (drop a l)) w sp
    double_merges h = go (dec_le (w + w) (length l - a)) (dec_le (length l - a) w)
      where
        inside : a < length l
        inside = omega (arith, t.built.long)

        one : w ≡ w + w - w
        one = omega arith

        go : Dec (w + w ≤ length l - a) → Dec (length l - a ≤ w) → Merges s (take (e - a) (drop a l)) w sp
        go (yes k) j =
            let z : e - a ≡ w + w = omega (arith, end_inner a (w + w) (length l) e f (omega (arith, inside))) in
            let next : length (drop w (drop a l)) ≡ length l - a - w = length-drop w (drop a l) ∙ omega (arith, long) in
            rw z (pair_merges (w + w) (omega arith) (omega (arith, long)) (omega (arith, t.some))
            (subst (λ (k : ℕ). sorted s (take k (drop w (drop a l))) ≡ take k (drop w (drop a l))) one (run_first s w (run_behind s w t.rest (omega (arith, long))) (omega (arith, next)))))
        go (no k) (yes j) =
            let z : e - a ≡ length l - a = ap (λ (n : ℕ). n - a) (end_last a (w + w) (length l) e f (omega arith)) in
            rw z (run_merges (length l - a) (omega arith) (omega (arith, long)) j (omega (arith, long)))
        go (no k) (no j) =
            let z : e - a ≡ length l - a = ap (λ (n : ℕ). n - a) (end_last a (w + w) (length l) e f (omega arith)) in
            let other : length (drop w (drop a l)) ≡ length l - a - w = length-drop w (drop a l) ∙ omega (arith, long) in
            rw z (pair_merges (length l - a) (omega arith) (omega (arith, long)) (omega arith)
            (rw (take_all (length l - a - w) (drop w (drop a l)) (omega (arith, other))) (run_only s w (run_behind s w t.rest (omega (arith, long))) (omega (arith, other)))))

    module _ (m : List ℕ) (d : SortedIs s (take (e - a) (drop a l)) m) where
      pub double_last : length l₀ - a ≤ w + w → RunsAre s l₀ (w + w) (take a l ++ (m ++ drop (e - a) (drop a l)))
      double_last h =
          let k : length l ≤ a + (w + w) = omega (arith, t.built.long) in
          let z : e - a ≡ length l - a = ap (λ (n : ℕ). n - a) (end_last a (w + w) (length l) e f k) in
          rw z (built_last s l₀ l (w + w) a t.built m (omega arith) (subst (λ (n : ℕ). SortedIs s (take n (drop a l)) m) z d))

      pub double_again : w + w < length l₀ - a → (sp' : List ℕ) → length sp' ≡ length sp → Doubling s l₀ w (take a l ++ (m ++ drop (e - a) (drop a l))) sp' (a + (w + w))
      double_again h sp' g =
          let k : a + (w + w) ≤ length l = omega (arith, t.built.long) in
          let z : e - a ≡ w + w = omega (arith, end_inner a (w + w) (length l) e f k) in
          rw z (go k (subst (λ (n : ℕ). SortedIs s (take n (drop a l)) m) z d))
        where
          go : a + (w + w) ≤ length l → SortedIs s (take (w + w) (drop a l)) m → Doubling s l₀ w (take a l ++ (m ++ drop (w + w) (drop a l))) sp' (a + (w + w))
          go k q =
              let next : length (drop w (drop a l)) ≡ length l - a - w = length-drop w (drop a l) ∙ omega (arith, long) in
              record {
                some = t.some;
                small = t.small;
                room = g ∙ t.room;
                built = built_again s l₀ l (w + w) a t.built m k q;
                rest = rw (part_rest s l a (w + w) m t.built.held q k) (subst (Runs s w) (drop-drop w w (drop a l)) (run_behind s w (run_behind s w t.rest (omega (arith, long))) (omega (arith, next))));
              }

pub ruleset doubling = (length-take-le, end_within, end_behind, double_start, double_some, double_step, double_none, double_merges, double_last, double_again)
