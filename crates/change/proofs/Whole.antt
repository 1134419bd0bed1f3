-- Difference, merge and application of whole snapshots and deltas.
use mathlib.Core.Path.{◌≡◌, refl, ap, ◌∙◌}
use mathlib.Core.List.{[], ◌∷◌, map}
use Rattle.std.specs.declared.cmp.Ordering.{Ordering}
use Rattle.order.specs.Comparison.{TotalOrder}
use Rattle.order.specs.Map.{Item, lookup, Sorted}
use Rattle.order.proofs.Map.{ext}
use Rattle.order.proofs.Walk.{walk_nil, walk_left, walk_right, walk_sorted, walk_lookup}
use Rattle.change.specs.Change.{Change, announce, withdraw}
use Rattle.change.specs.Difference.{Snapshot, Delta, diff_at, diff}
use Rattle.change.specs.Merge.{merge_at, merge}
use Rattle.change.specs.Application.{apply_at, apply, Applies}
use Rattle.change.proofs.Tables.{diff_self, diff_none, diff_merge, diff_apply, diff_fits, diff_is_merge, apply_is_merge}

module _ {K W : Type 0} {cmp : K → K → Ordering} (O : TotalOrder cmp) {val : W → W → Ordering} (P : TotalOrder val) where
  module _ (A : Snapshot K W) (D : Delta K W) (s : Sorted cmp A) (t : Sorted cmp D) where
    pub apply_sorted : Sorted cmp (apply cmp A D)
    apply_sorted = walk_sorted O apply_at A D s t

    pub apply_lookup : (k : K) → lookup cmp k (apply cmp A D) ≡ apply_at (lookup cmp k A) (lookup cmp k D)
    apply_lookup k = walk_lookup O apply_at refl k A D s t

  module _ (A B : Snapshot K W) (s : Sorted cmp A) (t : Sorted cmp B) where
    pub diff_sorted : Sorted cmp (diff cmp val A B)
    diff_sorted = walk_sorted O (diff_at val) A B s t

    pub diff_lookup : (k : K) → lookup cmp k (diff cmp val A B) ≡ diff_at val (lookup cmp k A) (lookup cmp k B)
    diff_lookup k = walk_lookup O (diff_at val) refl k A B s t

  module _ (D F : Delta K W) (s : Sorted cmp D) (t : Sorted cmp F) where
    pub merge_sorted : Sorted cmp (merge cmp val D F)
    merge_sorted = walk_sorted O (merge_at val) D F s t

    pub merge_lookup : (k : K) → lookup cmp k (merge cmp val D F) ≡ merge_at val (lookup cmp k D) (lookup cmp k F)
    merge_lookup k = walk_lookup O (merge_at val) refl k D F s t

  -- difference after difference, merged, is the difference of the ends
  pub compose : (A B C : Snapshot K W) → Sorted cmp A → Sorted cmp B → Sorted cmp C →
      merge cmp val (diff cmp val A B) (diff cmp val B C) ≡ diff cmp val A C
  compose A B C s t u =
      ext O _ _ (search (diff_sorted, merge_sorted)) (search diff_sorted)
      (λ k. simp (merge_lookup, diff_lookup, diff_merge P, diff_sorted))

  -- the difference takes the old snapshot to the new
  pub yields : (A C : Snapshot K W) → Sorted cmp A → Sorted cmp C → apply cmp A (diff cmp val A C) ≡ C
  yields A C s t =
      ext O _ _ (search (diff_sorted, apply_sorted)) t
      (λ k. simp (apply_lookup, diff_lookup, diff_apply P, diff_sorted))

  -- and can be applied to it
  pub applies : (A C : Snapshot K W) → Sorted cmp A → Sorted cmp C → Applies cmp val A (diff cmp val A C)
  applies A C s t k = rw (diff_lookup A C s t k) (diff_fits P (lookup cmp k A) (lookup cmp k C))

  -- the difference of a snapshot and itself is empty, and only then
  pub diff_nil : (S : Snapshot K W) → Sorted cmp S → diff cmp val S S ≡ []
  diff_nil S s = ext O (diff cmp val S S) [] (diff_sorted S S s s) tt (λ k. diff_lookup S S s s k ∙ diff_self P (lookup cmp k S))

  pub nil_diff : (A B : Snapshot K W) → Sorted cmp A → Sorted cmp B → diff cmp val A B ≡ [] → A ≡ B
  nil_diff A B s t e =
      ext O A B s t (λ k. diff_none P (lookup cmp k A) (lookup cmp k B) (cc (diff_lookup A B s t k, ap (lookup cmp k) e)))

-- where one side has run out the rest of the other follows: all of it withdrawn, all of it announced, or as it is
abbrev pub as_new : {K W : Type 0} → Item K W → Item K (Change W)
as_new x = record { key = x.key; val = announce x.val }

abbrev pub as_gone : {K W : Type 0} → Item K W → Item K (Change W)
as_gone x = record { key = x.key; val = withdraw x.val }

module _ {K W : Type 0} (cmp : K → K → Ordering) (val : W → W → Ordering) where
  pub diff_new : (B : Snapshot K W) → diff cmp val [] B ≡ map as_new B
  diff_new [] = walk_nil cmp (diff_at val)
  diff_new (y ∷ B) = rw walk_right (ap (λ (D : Delta K W). as_new y ∷ D) (diff_new B))

  pub diff_gone : (A : Snapshot K W) → diff cmp val A [] ≡ map as_gone A
  diff_gone [] = walk_nil cmp (diff_at val)
  diff_gone (x ∷ A) = rw walk_left (ap (λ (D : Delta K W). as_gone x ∷ D) (diff_gone A))

  pub merge_later : (F : Delta K W) → merge cmp val [] F ≡ F
  merge_later [] = walk_nil cmp (merge_at val)
  merge_later (y ∷ F) = rw walk_right (ap (λ (D : Delta K W). y ∷ D) (merge_later F))

  pub merge_earlier : (D : Delta K W) → merge cmp val D [] ≡ D
  merge_earlier [] = walk_nil cmp (merge_at val)
  merge_earlier (x ∷ D) = rw walk_left (ap (λ (F : Delta K W). x ∷ F) (merge_earlier D))

  pub apply_none : (A : Snapshot K W) → apply cmp A [] ≡ A
  apply_none [] = walk_nil cmp apply_at
  apply_none (x ∷ A) = rw walk_left (ap (λ (B : Snapshot K W). x ∷ B) (apply_none A))

module _ {K W : Type 0} {cmp : K → K → Ordering} (O : TotalOrder cmp) {val : W → W → Ordering} (P : TotalOrder val) where
  -- a difference is everything old withdrawn, merged with everything new announced
  pub diff_as_merge : (A B : Snapshot K W) → Sorted cmp A → Sorted cmp B →
      diff cmp val A B ≡ merge cmp val (diff cmp val A []) (diff cmp val [] B)
  diff_as_merge A B s t =
      let g : Sorted cmp (diff cmp val A []) = diff_sorted O P A [] s tt in
      let n : Sorted cmp (diff cmp val [] B) = diff_sorted O P [] B tt t in
      ext O (diff cmp val A B) (merge cmp val (diff cmp val A []) (diff cmp val [] B)) (diff_sorted O P A B s t) (merge_sorted O P (diff cmp val A []) (diff cmp val [] B) g n)
      (λ k.
      rw (
        diff_lookup O P A B s t k,
        merge_lookup O P (diff cmp val A []) (diff cmp val [] B) g n k,
        diff_lookup O P A [] s tt k,
        diff_lookup O P [] B tt t k,
      ) (diff_is_merge P (lookup cmp k A) (lookup cmp k B)))

  -- an application, all of it announced, is everything held announced, merged with the delta
  pub apply_as_merge : (A : Snapshot K W) (D : Delta K W) → Sorted cmp A → Sorted cmp D → Applies cmp val A D →
      diff cmp val [] (apply cmp A D) ≡ merge cmp val (diff cmp val [] A) D
  apply_as_merge A D s t h =
      let n : Sorted cmp (diff cmp val [] A) = diff_sorted O P [] A tt s in
      let y : Sorted cmp (apply cmp A D) = apply_sorted O P A D s t in
      ext O (diff cmp val [] (apply cmp A D)) (merge cmp val (diff cmp val [] A) D) (diff_sorted O P [] (apply cmp A D) tt y) (merge_sorted O P (diff cmp val [] A) D n t)
      (λ k.
      rw (
        diff_lookup O P [] (apply cmp A D) tt y k,
        apply_lookup O P A D s t k,
        merge_lookup O P (diff cmp val [] A) D n t k,
        diff_lookup O P [] A tt s k,
      ) (apply_is_merge P (lookup cmp k A) (lookup cmp k D) (h k)))
