-- A delta item by item: that each can be applied is that the delta can, at every key.
use mathlib.Core.Path.{◌≡◌, refl}
use mathlib.Core.List.{[], ◌∷◌}
use mathlib.Core.Option.{some}
use mathlib.Core.Bool.{true}
use Rattle.std.specs.declared.cmp.Ordering.{Ordering}
use Rattle.std.specs.declared.cmp.Ordering.TheVariants.{Less, Equal, Greater}
use Rattle.order.specs.Comparison.{TotalOrder}
use Rattle.order.specs.Map.{Item, All, own, lookup, Sorted}
use Rattle.order.proofs.Map.{absent_at}
use Rattle.change.specs.Change.{Change}
use Rattle.change.specs.Difference.{Snapshot, Delta}
use Rattle.change.specs.Application.{fits, fits_at, Applies}

module _ {K W : Type 0} {cmp : K → K → Ordering} (O : TotalOrder cmp) (val : W → W → Ordering) where
  -- an item of a delta fits what is held at its key
  abbrev pub ItemFits : Snapshot K W → Item K (Change W) → Type 0
  ItemFits A x = fits val (lookup cmp x.key A) x.val ≡ true

  -- without the delta's first item
  pub applies_tail : (A : Snapshot K W) (x : Item K (Change W)) (D : Delta K W) → Sorted cmp (x ∷ D) →
      Applies cmp val A (x ∷ D) → Applies cmp val A D
  applies_tail A x D s h k = go (cmp k x.key) refl (h k)
    where
      go : (o : Ordering) → cmp k x.key ≡ o → fits_at val (lookup cmp k A) (own o (some x.val) (lookup cmp k D)) ≡ true →
          fits_at val (lookup cmp k A) (lookup cmp k D) ≡ true
      go Less e f = f
      go Equal e f = rw (absent_at O k x.key D e s.0 s.1)
      go Greater e f = f

  -- at the delta's first item
  pub applies_head : (A : Snapshot K W) (x : Item K (Change W)) (D : Delta K W) → Applies cmp val A (x ∷ D) → ItemFits A x
  applies_head A x D h = rw (O.self x.key) at (h x.key)

  pub items_fit : (A : Snapshot K W) (D : Delta K W) → Sorted cmp D → Applies cmp val A D → All (ItemFits A) D
  items_fit A [] s h = tt
  items_fit A (x ∷ D) s h = (applies_head A x D h, items_fit A D s.1 (applies_tail A x D s h))

  pub fit_items : (A : Snapshot K W) (D : Delta K W) → All (ItemFits A) D → Applies cmp val A D
  fit_items A [] h k = refl
  fit_items A (x ∷ D) h k = go (cmp k x.key) refl (fit_items A D h.1 k)
    where
      go : (o : Ordering) → cmp k x.key ≡ o → fits_at val (lookup cmp k A) (lookup cmp k D) ≡ true →
          fits_at val (lookup cmp k A) (own o (some x.val) (lookup cmp k D)) ≡ true
      go Less e f = f
      go Equal e f = rw (O.same k x.key e) h.0
      go Greater e f = f
