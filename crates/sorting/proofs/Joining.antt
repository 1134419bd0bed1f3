-- Laws of the sort: blocks, each merged into those before it.
use Prim.Native.Nat.{ℕ, ◌+◌, ◌-◌, ◌≤◌, ◌<◌}
use mathlib.Core.Path.{◌≡◌, refl, sym, ap, subst, ◌∙◌}
use mathlib.Core.List.{List, ◌++◌, append-nil}
use mathlib.Core.Bool.{Bool, true, false}
use native.Mathlib.Omega.{arith}
use native.Mathlib.Decide.{ℕ_discrete}
use lib.ListN.{length, get_or, take, drop, length-append, length-drop, drop_of_length-le, take-append-drop}
use lib.Seq.{length-take-le, take_all, take_at, take-take, take-add, drop_at, drop-drop}
use Rattle.std.specs.Ordering.{nat_cmp, ord_min}
use Rattle.payload.specs.Content.{Bytes}
use Rattle.heard.specs.Place.{Payload, precedes}
use Rattle.sorting.specs.Sorted.{sorted}
use Rattle.sorting.specs.Sort.{Held, Climbs, Ascends, Block, Extends, Merges, RunsAre, Doubles, SortedIs, FirstSorted}
use Rattle.sorting.proofs.Precede.{true≢false, not_above_trans}
use Rattle.sorting.proofs.Sorting.{climbing_by, sorted_fixed, sorted_first, sorted_behind, length_sorted}
use Rattle.sorting.proofs.Merging.{sorted_is, held_take, held_drop, held_both}
use Rattle.sorting.proofs.Running.{sorted_twice, run_only, end_inner, end_last, end_within, end_some, end_few}

-- ---- ascends

pub record Ascending (s : Bytes) (l : List ℕ) (i : ℕ) : Type 0 where
  pub held : Held s l
  pub some : 1 ≤ i
  pub order : Climbs s l i

pub ascend_start : (s : Bytes) (l : List ℕ) → Held s l → Ascending s l 1
ascend_start s l h = record { held = h; some = omega arith; order = record { up = λ a b p q. absurd (omega arith) } }

module _ (s : Bytes) (l : List ℕ) (i : ℕ) (t : Ascending s l i) where
  pub ascend_here : i < length l → Payload s (get_or l i 0)
  ascend_here h = t.held.each i h

  pub ascend_last : i < length l → Payload s (get_or l (i - 1) 0)
  ascend_last h = t.held.each (i - 1) (omega arith)

  pub ascend_no : Ascends s l false
  ascend_no = record { same = λ e. true≢false e refl }

  pub ascend_again : (r : Bool) → r ≡ precedes s (get_or l i 0) (get_or l (i - 1) 0) → r ≡ false → Ascending s l (i + 1)
  ascend_again r e f = record { held = t.held; some = omega arith; order = record { up = λ a b p q. go a b p q (ℕ_discrete b i) (ℕ_discrete a (i - 1)) } }
    where
      go : (a b : ℕ) → a < b → b < i + 1 → Dec (b ≡ i) → Dec (a ≡ i - 1) → precedes s (get_or l b 0) (get_or l a 0) ≡ false
      go a b p q (yes x) (yes y) = rw (x, y) (sym e ∙ f)
      go a b p q (yes x) (no y) =
          rw x (not_above_trans s (get_or l a 0) (get_or l (i - 1) 0) (get_or l i 0) (t.order.up a (i - 1) (omega arith) (omega (arith, t.some))) (sym e ∙ f))
      go a b p q (no x) y = t.order.up a b p (omega arith)

  pub ascend_end : length l ≤ i → Ascends s l true
  ascend_end h = record { same = λ e. sorted_fixed s (climbing_by s l (λ a b p q. t.order.up a b p (omega arith))) }

pub ruleset ascending = (ascend_start, ascend_here, ascend_last, ascend_no, ascend_again, ascend_end)

-- ---- extend: the others are sorted, and merged into the first m

module _ (s : Bytes) (l : List ℕ) (m : ℕ) (sp : List ℕ) (h : Extends s l m sp) where
  pub extend_start : m ≤ length l
  extend_start = omega (arith, h.within)

  others : take (length l - m) (drop m l) ≡ drop m l
  others = take_all (length l - m) (drop m l) (rw (length-drop m l) (omega arith))

  pub extend_block : Block s (take (length l - m) (drop m l)) sp
  extend_block = rw others (record { held = held_drop s l m h.held; small = rw (length-drop m l) h.small; room = h.room })

  module _ (b : List ℕ) (e : SortedIs s (take (length l - m) (drop m l)) b) where
    behind : b ++ drop (length l - m) (drop m l) ≡ sorted s (drop m l)
    behind =
        let z : length (drop m l) ≤ length l - m = rw (length-drop m l) (omega arith) in
        ap (λ (r : List ℕ). b ++ r) (drop_of_length-le (drop m l) z) ∙ append-nil b ∙ e.is ∙ ap (sorted s) others

    halved : take m l ++ (b ++ drop (length l - m) (drop m l)) ≡ take m l ++ sorted s (drop m l)
    halved = ap (λ (r : List ℕ). take m l ++ r) behind

    first : length (take m l) ≡ m
    first = length-take-le m l extend_start

    pub extend_long : length (take m l ++ (b ++ drop (length l - m) (drop m l))) ≡ length l
    extend_long =
        let z : length (sorted s (drop m l)) ≡ length l - m = length_sorted s (drop m l) ∙ length-drop m l in
        ap length halved ∙ length-append (take m l) (sorted s (drop m l)) ∙ omega (arith, first, h.within)

    pub extend_merges : (sp' : List ℕ) → length sp' ≡ length sp → Merges s (take m l ++ (b ++ drop (length l - m) (drop m l))) m sp'
    extend_merges sp' f = record {
      held = subst (Held s) (sym halved) (held_both s (take m l) (sorted s (drop m l)) (held_take s l m h.held extend_start) (sorted_is s (drop m l) (sorted s (drop m l)) (held_drop s l m h.held) refl).held);
      room = omega (arith, extend_long, h.small, h.room);
      left = rw (take_at (take m l) (b ++ drop (length l - m) (drop m l)) m first) h.left;
      right = rw (drop_at (take m l) (b ++ drop (length l - m) (drop m l)) m first, behind) (sorted_twice s (drop m l));
    }

    pub extend_done : (l' : List ℕ) → SortedIs s (take m l ++ (b ++ drop (length l - m) (drop m l))) l' → SortedIs s l l'
    extend_done l' d = record {
      held = d.held;
      is = d.is ∙ ap (sorted s) halved ∙ sorted_behind s (take m l) (sorted s (drop m l)) (drop m l) (sorted_twice s (drop m l)) ∙ ap (sorted s) (take-append-drop m l);
    }

pub ruleset extending = (extend_start, extend_block, extend_long, extend_merges, extend_done)

-- ---- sort_block: from runs of 7 on, runs of the width w

pub record Widening (s : Bytes) (l₀ l sp : List ℕ) (w : ℕ) : Type 0 where
  pub small : length l ≤ 448
  pub long : length l ≡ length l₀
  pub room : length sp ≡ 448
  pub some : 1 ≤ w
  pub are : RunsAre s l₀ w l

pub block_held : (s : Bytes) (l sp : List ℕ) → Block s l sp → Held s l
block_held s l sp h = h.held

pub block_start : (s : Bytes) (l sp m : List ℕ) → Block s l sp → RunsAre s l 7 m → length m ≡ length l → Widening s m m sp 7
block_start s l sp m h d e = record { small = omega (arith, h.small); long = refl; room = h.room; some = omega arith; are = record { held = d.held; same = refl; runs = d.runs } }

module _ (s : Bytes) (l₀ l sp : List ℕ) (w : ℕ) (t : Widening s l₀ l sp w) where
  pub block_end : (k : List ℕ) → RunsAre s k 7 l₀ → length l ≤ w → SortedIs s k l
  block_end k d h = record { held = t.are.held; is = sym (run_only s w t.are.runs h) ∙ t.are.same ∙ d.same }

  module _ (h : w < length l) where
    pub block_small : w ≤ 448
    block_small = omega (arith, t.small)

    pub block_doubles : Doubles s l w sp
    block_doubles = record { held = t.are.held; runs = t.are.runs; some = t.some; small = block_small; room = t.room }

    pub block_again : (m sp' : List ℕ) → RunsAre s l (w + w) m → length m ≡ length l → length sp' ≡ length sp → Widening s l₀ m sp' (w + w)
    block_again m sp' d e f = record {
      small = omega (arith, t.small);
      long = e ∙ t.long;
      room = f ∙ t.room;
      some = omega (arith, t.some);
      are = record { held = d.held; same = d.same ∙ t.are.same; runs = d.runs };
    }

pub ruleset widening = (block_held, block_start, block_end, block_small, block_doubles, block_again)

-- ---- sort: the first m are sorted

pub record Extending (s : Bytes) (l₀ l sp : List ℕ) (m : ℕ) : Type 0 where
  pub held : Held s l
  pub spare : length sp ≡ 448
  pub first : FirstSorted s l₀ m l

pub sort_none : (s : Bytes) (l : List ℕ) (r : Bool) → Held s l → Ascends s l r → r ≡ true → SortedIs s l l
sort_none s l r h a e = sorted_is s l l h (sym (a.same e))

pub sort_start : (s : Bytes) (l sp : List ℕ) → Held s l → length sp ≡ 448 → Extending s l l sp 0
unfolding sorted
sort_start s l sp h f = record { held = h; spare = f; first = record { long = refl; is = refl; rest = refl } }

module _ (s : Bytes) (l₀ l sp : List ℕ) (m : ℕ) (t : Extending s l₀ l sp m) where
  in_order : sorted s (take m l) ≡ take m l
  in_order = ap (sorted s) t.first.is ∙ sorted_twice s (take m l₀) ∙ sym t.first.is

  pub sort_end : length l₀ ≤ m → SortedIs s l₀ l
  sort_end h = record { held = t.held; is = sym (take_all m l (omega (arith, t.first.long))) ∙ t.first.is ∙ ap (sorted s) (take_all m l₀ h) }

  -- up to e
  module _ (e : ℕ) (f : e ≡ ord_min nat_cmp (m + 448) (length l)) (i : m < length l₀) where
    pub sort_part : e ≤ length l
    sort_part = end_within m 448 (length l) e f

    moves : m < e
    moves = end_some m 448 (length l) e f (omega arith) (omega (arith, t.first.long))

    few : e - m ≤ 448
    few = end_few m 448 (length l) e f

    part : length (take e l) ≡ e
    part = length-take-le e l sort_part

    pub sort_extends : Extends s (take e l) m sp
    sort_extends = record {
      held = held_take s l e t.held sort_part;
      within = omega (arith, part, moves);
      small = omega (arith, part, few);
      room = t.spare;
      left = rw (take-take m e l (omega (arith, moves))) in_order;
    }

    to_e : m + (e - m) ≡ e
    to_e = omega (arith, moves)

    cut : (k : List ℕ) → take e k ≡ take m k ++ take (e - m) (drop m k)
    cut k = ap (λ (n : ℕ). take n k) (sym to_e) ∙ take-add m (e - m) k

    beyond : (k : List ℕ) → drop e k ≡ drop (e - m) (drop m k)
    beyond k = ap (λ (n : ℕ). drop n k) (sym to_e) ∙ sym (drop-drop (e - m) m k)

    same : sorted s (take e l) ≡ sorted s (take e l₀)
    same =
        ap (sorted s) (cut l) ∙ ap (λ (r : List ℕ). sorted s (r ++ take (e - m) (drop m l))) t.first.is ∙ ap (λ (r : List ℕ). sorted s (sorted s (take m l₀) ++ take (e - m) r)) t.first.rest
        ∙ sorted_first s (take m l₀) (take (e - m) (drop m l₀)) ∙ ap (sorted s) (sym (cut l₀))

    sorted_to : (k sp' : List ℕ) → SortedIs s (take e l) k → length sp' ≡ length sp → Extending s l₀ (k ++ drop e l) sp' e
    sorted_to k sp' d g = record {
      held = held_both s k (drop e l) d.held (held_drop s l e t.held);
      spare = g ∙ t.spare;
      first = record {
        long = long ∙ t.first.long;
        is = take_at k (drop e l) e size ∙ d.is ∙ same;
        rest = drop_at k (drop e l) e size ∙ beyond l ∙ ap (drop (e - m)) t.first.rest ∙ sym (beyond l₀);
      };
    }
      where
        size : length k ≡ e
        size = ap length d.is ∙ length_sorted s (take e l) ∙ part

        long : length (k ++ drop e l) ≡ length l
        long = let z : length (drop e l) ≡ length l - e = length-drop e l in length-append k (drop e l) ∙ omega (arith, size, sort_part)

    pub sort_again : 448 < length l₀ - m → (k sp' : List ℕ) → SortedIs s (take e l) k → length sp' ≡ length sp → Extending s l₀ (k ++ drop e l) sp' (m + 448)
    sort_again h k sp' d g =
        let z : e ≡ m + 448 = end_inner m 448 (length l) e f (omega (arith, t.first.long)) in
        subst (λ (n : ℕ). Extending s l₀ (k ++ drop e l) sp' n) z (sorted_to k sp' d g)

    pub sort_last : length l₀ - m ≤ 448 → (k : List ℕ) → SortedIs s (take e l) k → SortedIs s l₀ (k ++ drop e l)
    sort_last h k d =
        let z : e ≡ length l = end_last m 448 (length l) e f (omega (arith, t.first.long)) in
        let x = sorted_to k sp d refl in
        record { held = x.held; is = sym (take_all e (k ++ drop e l) (omega (arith, x.first.long, t.first.long))) ∙ x.first.is ∙ ap (sorted s) (take_all e l₀ (omega (arith, t.first.long))) }

pub ruleset joining = (length-take-le, sort_none, sort_start, sort_end, sort_part, sort_extends, sort_again, sort_last)
