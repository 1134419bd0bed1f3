-- The items of some kinds: what stands at a key among them, and that they ascend.
use Prim.Native.Nat.{ℕ}
use mathlib.Core.Path.{◌≡◌, refl, ap, ◌∙◌}
use mathlib.Core.List.{List, [], ◌∷◌}
use mathlib.Core.Option.{Option, none, some}
use mathlib.Core.Bool.{Bool, true, false, cond}
use lib.ListN.{get_or}
use Rattle.std.specs.declared.cmp.Ordering.{Ordering}
use Rattle.std.specs.declared.cmp.Ordering.TheVariants.{Less, Equal, Greater}
use Rattle.order.specs.Comparison.{bytes}
use Rattle.order.specs.Map.{Item, own, lookup, Below, Sorted}
use Rattle.order.proofs.Comparison.{strings}
use Rattle.order.proofs.Map.{below_trans}
use Rattle.payload.specs.Content.{Bytes}
use Rattle.message.specs.declared.version.Version.{Version}
use Rattle.message.specs.Version.{speaks}
use Rattle.message.specs.Say.{kind_in, spoken}

module _ {A : Type 0} (test : ℕ → Bool) where
  -- those of the kinds that pass a test
  abbrev pub kept : List (Item Bytes A) → List (Item Bytes A)
  kept [] = []
  kept (x ∷ D) = cond (test (kind_in x)) (x ∷ kept D) (kept D)

  pub kept_lookup : (k : Bytes) (D : List (Item Bytes A)) → lookup bytes k (kept D) ≡ cond (test (get_or k 0 0)) (lookup bytes k D) none
  kept_lookup k [] = go (test (get_or k 0 0))
    where
      go : (b : Bool) → ◌≡◌ {A = Option A} none (cond b none none)
      go true = refl
      go false = refl
  kept_lookup k (x ∷ D) = go (test (kind_in x)) refl (bytes k x.key) refl (kept_lookup k D)
    where
      at_key : (b : Bool) → test (kind_in x) ≡ b → bytes k x.key ≡ Equal → test (get_or k 0 0) ≡ b
      at_key b e c = ap (λ (l : Bytes). test (get_or l 0 0)) (strings.same k x.key c) ∙ e

      go : (b : Bool) → test (kind_in x) ≡ b → (o : Ordering) → bytes k x.key ≡ o → lookup bytes k (kept D) ≡ cond (test (get_or k 0 0)) (lookup bytes k D) none →
          lookup bytes k (cond b (x ∷ kept D) (kept D)) ≡ cond (test (get_or k 0 0)) (own o (some x.val) (lookup bytes k D)) none
      go true e Less c i = rw c i
      go true e Equal c i = rw (c, at_key true e c)
      go true e Greater c i = rw c i
      go false e Less c i = i
      go false e Equal c i = i ∙ rw (at_key false e c)
      go false e Greater c i = i

  kept_below : (k : Bytes) (D : List (Item Bytes A)) → Below bytes k D → Sorted bytes D → Below bytes k (kept D)
  kept_below k [] b s = tt
  kept_below k (x ∷ D) b s = go (test (kind_in x)) (kept_below k D (below_trans strings k x.key D b s.0) s.1)
    where
      go : (t : Bool) → Below bytes k (kept D) → Below bytes k (cond t (x ∷ kept D) (kept D))
      go true i = b
      go false i = i

  pub kept_sorted : (D : List (Item Bytes A)) → Sorted bytes D → Sorted bytes (kept D)
  kept_sorted [] s = tt
  kept_sorted (x ∷ D) s = go (test (kind_in x)) (kept_sorted D s.1)
    where
      go : (t : Bool) → Sorted bytes (kept D) → Sorted bytes (cond t (x ∷ kept D) (kept D))
      go true i = (kept_below x.key D s.0 s.1, i)
      go false i = i

module _ {A : Type 0} (v : Version) where
  spoken_kept : (D : List (Item Bytes A)) → spoken v D ≡ kept (speaks v) D
  unfolding spoken
  spoken_kept [] = refl
  spoken_kept (x ∷ D) = ap (λ (r : List (Item Bytes A)). cond (speaks v (kind_in x)) (x ∷ r) r) (spoken_kept D)

  pub spoken_lookup : (k : Bytes) (D : List (Item Bytes A)) → lookup bytes k (spoken v D) ≡ cond (speaks v (get_or k 0 0)) (lookup bytes k D) none
  spoken_lookup k D = rw (spoken_kept D) (kept_lookup (speaks v) k D)

  pub spoken_sorted : (D : List (Item Bytes A)) → Sorted bytes D → Sorted bytes (spoken v D)
  spoken_sorted D s = rw (spoken_kept D) (kept_sorted (speaks v) D s)
