-- Merges along a chain of snapshots come to the same in whatever way they are grouped.
use mathlib.Core.Path.{◌≡◌, refl, sym, ap, ◌∙◌}
use mathlib.Core.List.{List, [], ◌∷◌, ◌++◌}
use Rattle.std.specs.declared.cmp.Ordering.{Ordering}
use Rattle.order.specs.Comparison.{TotalOrder}
use Rattle.order.specs.Map.{All, Sorted}
use Rattle.order.proofs.Never.{never}
use Rattle.change.specs.Difference.{Snapshot, Delta, diff}
use Rattle.change.specs.Merge.{merge}
use Rattle.change.specs.History.{newest}
use Rattle.change.specs.Held.{diffs}
use Rattle.change.specs.Grouping.{Grouping, alone, grouped, leaves, merge_tree, steps}
use Rattle.change.proofs.Whole.{compose}
use Rattle.change.proofs.Chain.{all_newest}

module _ {S D : Type 0} (difference : S → S → D) where
  -- a chain cut in two where its differences are
  record Cut (A : S) (Ts : List S) (u v : List D) : Type 0 where
    left : List S
    right : List S
    join : left ++ right ≡ Ts
    first : u ≡ steps difference A left
    rest : v ≡ steps difference (newest A left) right

  cut : (A : S) (Ts : List S) (u v : List D) → u ++ v ≡ steps difference A Ts → Cut A Ts u v
  cut A Ts [] v e = record { left = []; right = Ts; join = refl; first = refl; rest = e }
  cut A [] (d ∷ u) v e = never cc
  cut A (T ∷ Ts) (d ∷ u) v e =
      let c : Cut T Ts u v = cut T Ts u v (cc) in
      record { left = T ∷ c.left; right = c.right; join = cc c.join; first = cc c.first; rest = c.rest }

module _ {S : Type 0} where
  all_left : (P : S → Type 0) (a b : List S) → All P (a ++ b) → All P a
  all_left P [] b h = tt
  all_left P (x ∷ a) b h = (h.0, all_left P a b h.1)

  all_right : (P : S → Type 0) (a b : List S) → All P (a ++ b) → All P b
  all_right P [] b h = h
  all_right P (x ∷ a) b h = all_right P a b h.1

  newest_join : (A : S) (a b : List S) → newest A (a ++ b) ≡ newest (newest A a) b
  newest_join A [] b = refl
  newest_join A (T ∷ a) b = newest_join T a b

-- wherever two neighbouring differences, merged, are the difference of their ends: of maps and of bytes alike
module _ {S D : Type 0} (difference : S → S → D) (merge : D → D → D) (Good : S → Type 0)
    (composes : (A B C : S) → Good A → Good B → Good C → merge (difference A B) (difference B C) ≡ difference A C) where
  -- every grouping of a chain's differences, merged, is the difference of its ends
  pub tree_ends : (g : Grouping D) (A : S) (Ts : List S) → Good A → All Good Ts → leaves g ≡ steps difference A Ts →
      merge_tree merge g ≡ difference A (newest A Ts)
  tree_ends (alone d) A [] s h e = never cc
  tree_ends (alone d) A (T ∷ []) s h e = cc
  tree_ends (alone d) A (T ∷ U ∷ Ts) s h e = never cc
  tree_ends (grouped l r) A Ts s h e =
      let c : Cut difference A Ts (leaves l) (leaves r) = cut difference A Ts (leaves l) (leaves r) e in
      let k : All Good (c.left ++ c.right) = rw c.join h in
      let m : S = newest A c.left in
      let hl : All Good c.left = all_left Good c.left c.right k in
      let hr : All Good c.right = all_right Good c.left c.right k in
      let sm : Good m = all_newest Good A c.left s hl in
      let p : merge_tree merge l ≡ difference A m = tree_ends l A c.left s hl c.first in
      let q : merge_tree merge r ≡ difference m (newest m c.right) = tree_ends r m c.right sm hr c.rest in
      let z : newest m c.right ≡ newest A Ts = sym (newest_join A c.left c.right) ∙ ap (newest A) c.join in
      rw (p, q) (composes A m (newest m c.right) s sm (all_newest Good m c.right sm hr) ∙ ap (difference A) z)

module _ {K W : Type 0} {cmp : K → K → Ordering} (O : TotalOrder cmp) {val : W → W → Ordering} (P : TotalOrder val) where
  diffs_steps : (A : Snapshot K W) (Ts : List (Snapshot K W)) → diffs cmp val A Ts ≡ steps (diff cmp val) A Ts
  diffs_steps A [] = refl
  diffs_steps A (T ∷ Ts) = ap (λ (Ds : List (Delta K W)). diff cmp val A T ∷ Ds) (diffs_steps T Ts)

  -- of ascending snapshots
  pub any_grouping : (g : Grouping (Delta K W)) (A : Snapshot K W) (Ts : List (Snapshot K W)) → Sorted cmp A → All (Sorted cmp) Ts →
      leaves g ≡ diffs cmp val A Ts → merge_tree (merge cmp val) g ≡ diff cmp val A (newest A Ts)
  any_grouping g A Ts s h e = tree_ends (diff cmp val) (merge cmp val) (Sorted cmp) (compose O P) g A Ts s h (e ∙ diffs_steps A Ts)
