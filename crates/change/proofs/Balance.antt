-- Items of a kind before and after an application: after, with the taken, is before, with the brought.
use mathlib.Core.Path.{◌≡◌, refl, ap, ◌∙◌}
use mathlib.Core.List.{[], ◌∷◌}
use mathlib.Core.Option.{none, some}
use mathlib.Core.Bool.{Bool, true}
use Prim.Native.Nat.{◌+◌}
use native.Mathlib.Omega.{arith}
use Rattle.std.specs.declared.cmp.Ordering.{Ordering}
use Rattle.std.specs.declared.cmp.Ordering.TheVariants.{Less, Equal, Greater}
use Rattle.order.specs.Comparison.{flip, TotalOrder}
use Rattle.order.specs.Map.{Item, own, lookup, Below, Sorted}
use Rattle.order.specs.Walk.{emit}
use Rattle.order.proofs.Never.{never}
use Rattle.order.proofs.Map.{absent, absent_at}
use Rattle.order.proofs.Walk.{walk_nil, walk_right, walk_less, walk_equal, walk_greater}
use Rattle.change.specs.Change.{Change, announce, withdraw, update}
use Rattle.change.specs.Difference.{Snapshot, Delta}
use Rattle.change.specs.Application.{apply_at, fits, fits_at, apply, Applies}
use Rattle.change.specs.Balance.{of_kind, brought, taken}
use Rattle.change.proofs.Whole.{apply_none}
use Rattle.change.proofs.Items.{applies_head, applies_tail}

module _ {K W : Type 0} {cmp : K → K → Ordering} (O : TotalOrder cmp) (val : W → W → Ordering) where
  -- without a held item below the delta
  applies_drop : (x : Item K W) (A : Snapshot K W) (D : Delta K W) → Below cmp x.key D → Sorted cmp D → Applies cmp val (x ∷ A) D → Applies cmp val A D
  applies_drop x A D p s h k = go (cmp k x.key) refl (h k)
    where
      go : (o : Ordering) → cmp k x.key ≡ o → fits_at val (own o (some x.val) (lookup cmp k A)) (lookup cmp k D) ≡ true →
          fits_at val (lookup cmp k A) (lookup cmp k D) ≡ true
      go Less e f = f
      go Equal e f = rw (absent_at O k x.key D e p s)
      go Greater e f = f

  module _ (kind : K → Bool) where
    -- the equation for a delta, and for one item more that stands at a key where nothing is held, or where something is
    abbrev Even : Snapshot K W → Delta K W → Type 0
    Even A D = of_kind kind (apply cmp A D) + taken kind D ≡ of_kind kind A + brought kind D

    new : (A R : Snapshot K W) (k : K) (d : Change W) (D : Delta K W) → fits val none d ≡ true →
        of_kind kind R + taken kind D ≡ of_kind kind A + brought kind D →
        of_kind kind (emit k (apply_at none (some d)) R) + taken kind (record { key = k; val = d } ∷ D) ≡ of_kind kind A + brought kind (record { key = k; val = d } ∷ D)
    new A R k (announce n) D f i = omega arith
    new A R k (withdraw p) D f i = never cc
    new A R k (update p n) D f i = never cc

    old : (A R : Snapshot K W) (k : K) (v : W) (d : Change W) (D : Delta K W) → fits val (some v) d ≡ true →
        of_kind kind R + taken kind D ≡ of_kind kind A + brought kind D →
        of_kind kind (emit k (apply_at (some v) (some d)) R) + taken kind (record { key = k; val = d } ∷ D) ≡
        of_kind kind (record { key = k; val = v } ∷ A) + brought kind (record { key = k; val = d } ∷ D)
    old A R k v (announce n) D f i = never cc
    old A R k v (withdraw p) D f i = omega arith
    old A R k v (update p n) D f i = omega arith

    -- over any kind of keys
    pub balance : (A : Snapshot K W) (D : Delta K W) → Sorted cmp A → Sorted cmp D → Applies cmp val A D →
        of_kind kind (apply cmp A D) + taken kind D ≡ of_kind kind A + brought kind D
    balance [] [] s t h = rw walk_nil
    balance [] (y ∷ D) s t h =
        rw walk_right (new [] (apply cmp [] D) y.key y.val D (applies_head O val [] y D h) (balance [] D s t.1 (applies_tail O val [] y D t h)))
    balance (x ∷ A) [] s t h = rw (apply_none cmp val (x ∷ A))
    balance (x ∷ A) (y ∷ D) s t h =
        go (cmp x.key y.key) refl (λ g. balance A (y ∷ D) s.1 t g) (λ g. balance A D s.1 t.1 g)
        (balance (x ∷ A) D s t.1 (applies_tail O val (x ∷ A) y D t h))
      where
        go : (o : Ordering) → cmp x.key y.key ≡ o → (Applies cmp val A (y ∷ D) → Even A (y ∷ D)) → (Applies cmp val A D → Even A D) → Even (x ∷ A) D →
            Even (x ∷ A) (y ∷ D)
        go Less e i j l = rw (walk_less cmp apply_at x A y D e) (omega (arith, i (applies_drop x A (y ∷ D) e t h)))
        go Equal e i j l =
            let q : x.key ≡ y.key = O.same x.key y.key e in
            let b : Below cmp x.key D = rw q t.0 in
            let f : fits val (lookup cmp y.key (x ∷ A)) y.val ≡ true = applies_head O val (x ∷ A) y D h in
            let f' : fits val (some x.val) y.val ≡ true = rw (O.turn x.key y.key, e) at f in
            let k : Even A D = j (applies_drop x A D b t.1 (applies_tail O val (x ∷ A) y D t h)) in
            rw (walk_equal cmp apply_at x A y D e, ← q) (old A (apply cmp A D) x.key x.val y.val D f' k)
        go Greater e i j l =
            let n : lookup cmp y.key (x ∷ A) ≡ none = absent O y.key (x ∷ A) (O.turn x.key y.key ∙ ap flip e) s in
            let f : fits val none y.val ≡ true = rw n at (applies_head O val (x ∷ A) y D h) in
            rw (walk_greater cmp apply_at x A y D e) (new (x ∷ A) (apply cmp (x ∷ A) D) y.key y.val D f l)
