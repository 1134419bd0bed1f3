-- Laws of lists: what is mapped, taken from the end and added behind.
use Prim.Native.Nat.{ℕ, zero, suc, ◌-◌, ◌≤◌, min}
use mathlib.Core.Path.{◌≡◌, refl, sym, ap, ◌∙◌}
use mathlib.Core.List.{List, [], ◌∷◌, ◌++◌, map}
use mathlib.Core.Bool.{Bool, true, false, cond}
use native.Mathlib.Omega.{arith}
use lib.Dec.{eqb}
use lib.ListN.{length, drop, length-drop, length-map}
use borrow.Author.Tests.{eqb-true, eqb-false}
use Rattle.order.specs.Map.{All}
use Rattle.change.specs.History.{last_n, newest}
use Rattle.change.specs.Held.{nth}
use Rattle.change.specs.Grouping.{steps}
use Rattle.change.proofs.History.{push_room, push_full}
use Rattle.past.specs.Update.{pushed}

module _ {A : Type 0} where
  pub last_n_length : (n : ℕ) (l : List A) → length (last_n n l) ≡ min n (length l)
  last_n_length n l = length-drop (length l - n) l ∙ omega arith

  -- a delta pushed is one of the last
  pub pushed_last : (n keep : ℕ) (l : List A) (x : A) → 1 ≤ keep → n ≡ length l → n ≤ keep → pushed n keep l x ≡ last_n keep (l ++ (x ∷ []))
  pushed_last n keep l x p e h = go (eqb n keep) refl
    where
      go : (t : Bool) → eqb n keep ≡ t → cond t (drop 1 l) l ++ (x ∷ []) ≡ last_n keep (l ++ (x ∷ []))
      go true q = let f = eqb-true n keep q in sym (push_full keep l x p (omega arith))
      go false q = let f = eqb-false n keep q in sym (push_room keep l x (omega arith))

  pub newest_push : (S : A) (Ts : List A) (T : A) → newest S (Ts ++ (T ∷ [])) ≡ T
  newest_push S [] T = refl
  newest_push S (R ∷ Ts) T = newest_push R Ts T

  module _ (P : A → Type 0) where
    pub all_push : (l : List A) (x : A) → All P l → P x → All P (l ++ (x ∷ []))
    all_push [] x h p = (p, tt)
    all_push (y ∷ l) x h p = (h.0, all_push l x h.1 p)

    pub all_pushed : (n keep : ℕ) (l : List A) (x : A) → All P l → P x → All P (pushed n keep l x)
    all_pushed n keep l x h p = go (eqb n keep) l h
      where
        go : (t : Bool) (l : List A) → All P l → All P (cond t (drop 1 l) l ++ (x ∷ []))
        go true [] h = (p, tt)
        go true (y ∷ l) h = all_push l x h.1 p
        go false l h = all_push l x h p

module _ {A B : Type 0} (f : A → B) where
  pub map_push : (l : List A) (x : A) → map f (l ++ (x ∷ [])) ≡ map f l ++ (f x ∷ [])
  map_push [] x = refl
  map_push (y ∷ l) x = ap (λ (r : List B). f y ∷ r) (map_push l x)

  pub map_drop : (n : ℕ) (l : List A) → map f (drop n l) ≡ drop n (map f l)
  map_drop zero l = refl
  map_drop (suc n) [] = refl
  map_drop (suc n) (x ∷ l) = map_drop n l

  pub map_last_n : (n : ℕ) (l : List A) → map f (last_n n l) ≡ last_n n (map f l)
  map_last_n n l = rw (map_drop (length l - n) l, length-map l f)

  pub map_pushed : (n keep : ℕ) (l : List A) (x : A) → map f (pushed n keep l x) ≡ pushed n keep (map f l) (f x)
  map_pushed n keep l x = go (eqb n keep)
    where
      go : (t : Bool) → map f (cond t (drop 1 l) l ++ (x ∷ [])) ≡ cond t (drop 1 (map f l)) (map f l) ++ (f x ∷ [])
      go true = map_push (drop 1 l) x ∙ ap (λ (r : List B). r ++ (f x ∷ [])) (map_drop 1 l)
      go false = map_push l x

  pub map_newest : (S : A) (Ts : List A) → newest (f S) (map f Ts) ≡ f (newest S Ts)
  map_newest S [] = refl
  map_newest S (T ∷ Ts) = map_newest T Ts

  pub map_nth : (i : ℕ) (S : A) (Ts : List A) → nth i (f S) (map f Ts) ≡ f (nth i S Ts)
  map_nth zero S Ts = refl
  map_nth (suc i) S [] = refl
  map_nth (suc i) S (T ∷ Ts) = map_nth i T Ts

  pub all_map : (P : A → Type 0) (Q : B → Type 0) → ((x : A) → P x → Q (f x)) → (l : List A) → All P l → All Q (map f l)
  all_map P Q h [] t = tt
  all_map P Q h (x ∷ l) t = (h x t.0, all_map P Q h l t.1)

-- the steps of a chain with one more snapshot
pub steps_push : {A D : Type 0} (f : A → A → D) (S : A) (Ts : List A) (T : A) → steps f S (Ts ++ (T ∷ [])) ≡ steps f S Ts ++ (f (newest S Ts) T ∷ [])
steps_push f S [] T = refl
steps_push {D = D} f S (R ∷ Ts) T = ap (λ (l : List D). f S R ∷ l) (steps_push f R Ts T)
