-- What a history holds after an update, and what a query of the last d deltas gets.
use mathlib.Core.Path.{◌≡◌, refl, ap}
use mathlib.Core.List.{List, [], ◌∷◌, ◌++◌}
use Prim.Native.Nat.{ℕ, zero, suc, ◌+◌, ◌-◌, ◌≤◌, ◌<◌}
use native.Mathlib.Omega.{arith}
use lib.ListN.{length, drop, length-append, length-drop}
use lib.Seq.{drop-drop, drop-append-le}
use Rattle.std.specs.declared.cmp.Ordering.{Ordering}
use Rattle.order.specs.Comparison.{TotalOrder}
use Rattle.order.specs.Map.{All, Sorted}
use Rattle.change.specs.Difference.{Snapshot, Delta, diff}
use Rattle.change.specs.Merge.{merge_all}
use Rattle.change.specs.Application.{apply}
use Rattle.change.specs.History.{last_n, newest}
use Rattle.change.specs.Held.{nth, diffs, held}
use Rattle.change.proofs.Whole.{yields}
use Rattle.change.proofs.Chain.{chain, all_newest, all_nth, all_drop}

module _ {A : Type 0} where
  last_n_drop : (n i : ℕ) (l : List A) → i ≤ length l - n → last_n n (drop i l) ≡ last_n n l
  last_n_drop n i l h =
      let e : i + ((length l - i) - n) ≡ length l - n = omega arith in
      simp (drop-drop, length-drop, e)

  pub last_n_last_n : (m n : ℕ) (l : List A) → m ≤ n → last_n m (last_n n l) ≡ last_n m l
  last_n_last_n m n l h = last_n_drop m (length l - n) l (omega arith)

  -- what is no longer among the last does not come back
  pub last_n_push : (n : ℕ) (l : List A) (x : A) → last_n n (last_n n l ++ (x ∷ [])) ≡ last_n n (l ++ (x ∷ []))
  last_n_push n l x =
      rw (← drop-append-le (length l - n) l (x ∷ []) (omega arith))
      (last_n_drop n (length l - n) (l ++ (x ∷ [])) (omega (arith, length-append l (x ∷ []))))

  -- with room it is added
  pub push_room : (n : ℕ) (l : List A) (x : A) → length l < n → last_n n (l ++ (x ∷ [])) ≡ l ++ (x ∷ [])
  push_room n l x h =
      let e : length (l ++ (x ∷ [])) - n ≡ 0 = omega (arith, length-append l (x ∷ [])) in
      rw e

  -- at the limit the oldest goes first
  pub push_full : (n : ℕ) (l : List A) (x : A) → 1 ≤ n → length l ≡ n → last_n n (l ++ (x ∷ [])) ≡ drop 1 l ++ (x ∷ [])
  push_full n l x p h =
      let e : length (l ++ (x ∷ [])) - n ≡ 1 = omega (arith, length-append l (x ∷ [])) in
      rw e (drop-append-le 1 l (x ∷ []) (omega arith))

module _ {K W : Type 0} (cmp : K → K → Ordering) (val : W → W → Ordering) where
  diffs_push : (S : Snapshot K W) (Ts : List (Snapshot K W)) (T : Snapshot K W) →
      diffs cmp val S (Ts ++ (T ∷ [])) ≡ diffs cmp val S Ts ++ (diff cmp val (newest S Ts) T ∷ [])
  diffs_push S [] T = refl
  diffs_push S (R ∷ Ts) T = ap (λ (Ds : List (Delta K W)). diff cmp val S R ∷ Ds) (diffs_push R Ts T)

  pub diffs_length : (S : Snapshot K W) (Ts : List (Snapshot K W)) → length (diffs cmp val S Ts) ≡ length Ts
  diffs_length S [] = refl
  diffs_length S (T ∷ Ts) = ap suc (diffs_length T Ts)

  -- an update adds the difference from the newest
  pub held_push : (keep : ℕ) (S : Snapshot K W) (Ts : List (Snapshot K W)) (T : Snapshot K W) →
      last_n keep (held cmp val keep S Ts ++ (diff cmp val (newest S Ts) T ∷ [])) ≡ held cmp val keep S (Ts ++ (T ∷ []))
  held_push keep S Ts T = rw (diffs_push S Ts T) (last_n_push keep (diffs cmp val S Ts) (diff cmp val (newest S Ts) T))

  diffs_drop : (i : ℕ) (S : Snapshot K W) (Ts : List (Snapshot K W)) → drop i (diffs cmp val S Ts) ≡ diffs cmp val (nth i S Ts) (drop i Ts)
  diffs_drop zero S Ts = refl
  diffs_drop (suc i) S [] = refl
  diffs_drop (suc i) S (T ∷ Ts) = diffs_drop i T Ts

newest_drop : {S : Type 0} (i : ℕ) (A : S) (Ts : List S) → newest (nth i A Ts) (drop i Ts) ≡ newest A Ts
newest_drop zero A Ts = refl
newest_drop (suc i) A [] = refl
newest_drop (suc i) A (T ∷ Ts) = newest_drop i T Ts

module _ {K W : Type 0} {cmp : K → K → Ordering} (O : TotalOrder cmp) {val : W → W → Ordering} (P : TotalOrder val) where
  behind : (i : ℕ) (S : Snapshot K W) (Ts : List (Snapshot K W)) → Sorted cmp S → All (Sorted cmp) Ts →
      merge_all cmp val (drop i (diffs cmp val S Ts)) ≡ diff cmp val (nth i S Ts) (newest S Ts)
  behind i S Ts s h =
      rw (diffs_drop cmp val i S Ts, ← newest_drop i S Ts) (chain O P (nth i S Ts) (drop i Ts) (all_nth (Sorted cmp) i S Ts s h) (all_drop (Sorted cmp) i Ts h))

  -- a query's answer, the last d deltas merged, leads from the snapshot d updates ago to the newest
  pub answer : (keep d : ℕ) (S : Snapshot K W) (Ts : List (Snapshot K W)) → d ≤ keep → Sorted cmp S → All (Sorted cmp) Ts →
      merge_all cmp val (last_n d (held cmp val keep S Ts)) ≡ diff cmp val (nth (length Ts - d) S Ts) (newest S Ts)
  answer keep d S Ts h s t =
      rw (last_n_last_n d keep (diffs cmp val S Ts) h, diffs_length cmp val S Ts) (behind (length Ts - d) S Ts s t)

  -- and, applied to that snapshot, yields the newest
  pub answer_yields : (keep d : ℕ) (S : Snapshot K W) (Ts : List (Snapshot K W)) → d ≤ keep → Sorted cmp S → All (Sorted cmp) Ts →
      apply cmp (nth (length Ts - d) S Ts) (merge_all cmp val (last_n d (held cmp val keep S Ts))) ≡ newest S Ts
  answer_yields keep d S Ts h s t =
      rw (answer keep d S Ts h s t) (yields O P (nth (length Ts - d) S Ts) (newest S Ts) (all_nth (Sorted cmp) (length Ts - d) S Ts s t) (all_newest (Sorted cmp) S Ts s t))
