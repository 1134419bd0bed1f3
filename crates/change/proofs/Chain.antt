-- A chain of snapshots: its differences, merged in order, are the difference of its ends.
use mathlib.Core.Path.{◌≡◌, refl, ap, subst, ◌∙◌}
use mathlib.Core.List.{List, [], ◌∷◌, map, foldl}
use mathlib.Core.Option.{none}
use Prim.Native.Nat.{ℕ, zero, suc}
use lib.ListN.{drop}
use Rattle.std.specs.declared.cmp.Ordering.{Ordering}
use Rattle.order.specs.Comparison.{TotalOrder}
use Rattle.order.specs.Map.{All, lookup, Sorted}
use Rattle.order.proofs.Many.{fold_lookup}
use Rattle.change.specs.Difference.{Snapshot, Delta, diff}
use Rattle.change.specs.Merge.{merge_at, merge, merge_all}
use Rattle.change.specs.Application.{apply, Applies}
use Rattle.change.specs.History.{newest}
use Rattle.change.specs.Held.{nth, diffs}
use Rattle.change.proofs.Whole.{diff_nil, compose, yields, applies}

-- a property of all snapshots of a chain is one of its newest, of its i-th, and of all behind that
module _ {S : Type 0} (P : S → Type 0) where
  pub all_newest : (A : S) (Ts : List S) → P A → All P Ts → P (newest A Ts)
  all_newest A [] s h = s
  all_newest A (T ∷ Ts) s h = all_newest T Ts h.0 h.1

  pub all_nth : (i : ℕ) (A : S) (Ts : List S) → P A → All P Ts → P (nth i A Ts)
  all_nth zero A Ts s h = s
  all_nth (suc i) A [] s h = s
  all_nth (suc i) A (T ∷ Ts) s h = all_nth i T Ts h.0 h.1

  pub all_drop : (i : ℕ) (Ts : List S) → All P Ts → All P (drop i Ts)
  all_drop zero Ts h = h
  all_drop (suc i) [] h = tt
  all_drop (suc i) (T ∷ Ts) h = all_drop i Ts h.1

module _ {K W : Type 0} {cmp : K → K → Ordering} (O : TotalOrder cmp) {val : W → W → Ordering} (P : TotalOrder val) where
  -- begun at an earlier snapshot
  chain_from : (A S : Snapshot K W) (Ts : List (Snapshot K W)) → Sorted cmp A → Sorted cmp S → All (Sorted cmp) Ts →
      foldl (merge cmp val) (diff cmp val A S) (diffs cmp val S Ts) ≡ diff cmp val A (newest S Ts)
  chain_from A S [] r s h = refl
  chain_from A S (T ∷ Ts) r s h =
      ap (λ (D : Delta K W). foldl (merge cmp val) D (diffs cmp val T Ts)) (compose O P A S T r s h.0)
      ∙ chain_from A T Ts r h.0 h.1

  -- the merged differences of a chain are the difference of its ends
  pub chain : (S : Snapshot K W) (Ts : List (Snapshot K W)) → Sorted cmp S → All (Sorted cmp) Ts →
      merge_all cmp val (diffs cmp val S Ts) ≡ diff cmp val S (newest S Ts)
  chain S Ts s h =
      subst (λ (D : Delta K W). foldl (merge cmp val) D (diffs cmp val S Ts) ≡ diff cmp val S (newest S Ts)) (diff_nil O P S s)
      (chain_from S S Ts s s h)

  -- so they can be applied to its start
  pub chain_applies : (S : Snapshot K W) (Ts : List (Snapshot K W)) → Sorted cmp S → All (Sorted cmp) Ts →
      Applies cmp val S (merge_all cmp val (diffs cmp val S Ts))
  chain_applies S Ts s h = rw (chain S Ts s h) (applies O P S (newest S Ts) s (all_newest (Sorted cmp) S Ts s h))

  -- and yield its end
  pub chain_yields : (S : Snapshot K W) (Ts : List (Snapshot K W)) → Sorted cmp S → All (Sorted cmp) Ts →
      apply cmp S (merge_all cmp val (diffs cmp val S Ts)) ≡ newest S Ts
  chain_yields S Ts s h = rw (chain S Ts s h) (yields O P S (newest S Ts) s (all_newest (Sorted cmp) S Ts s h))

  -- a merge of many, at one key, is a fold of the merge at that key
  pub merge_all_at : (k : K) (Ds : List (Delta K W)) → All (Sorted cmp) Ds →
      lookup cmp k (merge_all cmp val Ds) ≡ foldl (merge_at val) none (map (lookup cmp k) Ds)
  merge_all_at k Ds h = fold_lookup O (merge_at val) refl k [] Ds tt h
