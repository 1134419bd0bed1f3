-- One message after another is the whole delta at once.
use mathlib.Core.Path.{◌≡◌, refl, sym, ap, ◌∙◌}
use mathlib.Core.List.{List, [], ◌∷◌, map}
use mathlib.Core.Option.{none, some}
use mathlib.Core.Bool.{true}
use Rattle.std.specs.declared.cmp.Ordering.{Ordering}
use Rattle.std.specs.declared.cmp.Ordering.TheVariants.{Less, Equal, Greater}
use Rattle.order.specs.Comparison.{bytes}
use Rattle.order.specs.Map.{Item, own, lookup, Sorted}
use Rattle.order.proofs.Comparison.{strings}
use Rattle.order.proofs.Map.{ext, absent_at}
use Rattle.change.specs.Change.{Change}
use Rattle.change.specs.Difference.{Snapshot, Delta}
use Rattle.change.specs.Application.{apply_at, apply, fits, fits_at, Applies}
use Rattle.change.proofs.Whole.{apply_sorted, apply_lookup, apply_none}
use Rattle.change.proofs.Items.{applies_head, applies_tail}
use Rattle.payload.specs.Content.{Bytes}
use Rattle.message.specs.Hear.{Told}
use Rattle.message.specs.Take.{all, as_item, take}

-- ---- the steps of the fold

pub take_fits : (A : Snapshot Bytes Bytes) (t : Told) (ts : List Told) → fits bytes (lookup bytes t.key A) t.change ≡ true →
    take A (t ∷ ts) ≡ take (apply bytes A (as_item t ∷ [])) ts
unfolding take
take_fits A t ts e = rw e

pub take_none : (A : Snapshot Bytes Bytes) → take A [] ≡ all A
unfolding take
take_none A = refl

-- ---- one item

module _ (A : Snapshot Bytes Bytes) (x : Item Bytes (Change Bytes)) (s : Sorted bytes A) where
  -- a delta of one item says nothing at other keys
  pub one_lookup : (k : Bytes) → lookup bytes k (apply bytes A (x ∷ [])) ≡ apply_at (lookup bytes k A) (own (bytes k x.key) (some x.val) none)
  one_lookup k = apply_lookup strings strings A (x ∷ []) s (tt, tt) k

  pub one_sorted : Sorted bytes (apply bytes A (x ∷ []))
  one_sorted = apply_sorted strings strings A (x ∷ []) s (tt, tt)

-- ---- the first item of a delta, then the rest

module _ (A : Snapshot Bytes Bytes) (x : Item Bytes (Change Bytes)) (D : Delta Bytes Bytes) (s : Sorted bytes A) (t : Sorted bytes (x ∷ D)) where
  pub first_then : apply bytes (apply bytes A (x ∷ [])) D ≡ apply bytes A (x ∷ D)
  first_then =
      ext strings _ _ (apply_sorted strings strings (apply bytes A (x ∷ [])) D (one_sorted A x s) t.1) (apply_sorted strings strings A (x ∷ D) s t)
      (λ k.
      rw (
        apply_lookup strings strings (apply bytes A (x ∷ [])) D (one_sorted A x s) t.1 k,
        apply_lookup strings strings A (x ∷ D) s t k,
        one_lookup A x s k,
      ) (go k (bytes k x.key) refl))
    where
      go : (k : Bytes) (o : Ordering) → bytes k x.key ≡ o →
          apply_at (apply_at (lookup bytes k A) (own o (some x.val) none)) (lookup bytes k D) ≡ apply_at (lookup bytes k A) (own o (some x.val) (lookup bytes k D))
      go k Less e = refl
      go k Equal e = rw (absent_at strings k x.key D e t.0 t.1)
      go k Greater e = refl

  pub rest_applies : Applies bytes bytes A (x ∷ D) → Applies bytes bytes (apply bytes A (x ∷ [])) D
  rest_applies h k = rw (one_lookup A x s k) (go (bytes k x.key) refl (applies_tail strings bytes A x D t h k))
    where
      go : (o : Ordering) → bytes k x.key ≡ o → fits_at bytes (lookup bytes k A) (lookup bytes k D) ≡ true →
          fits_at bytes (apply_at (lookup bytes k A) (own o (some x.val) none)) (lookup bytes k D) ≡ true
      go Less e f = f
      go Equal e f = rw (absent_at strings k x.key D e t.0 t.1)
      go Greater e f = f

-- ---- all of them

-- messages of ascending records that can be applied as one delta are all taken, and leave what the delta leaves
pub take_applies : (A : Snapshot Bytes Bytes) (ts : List Told) → Sorted bytes A → Sorted bytes (map as_item ts) → Applies bytes bytes A (map as_item ts) →
    take A ts ≡ all (apply bytes A (map as_item ts))
take_applies A [] s t h = take_none A ∙ ap all (sym (apply_none bytes bytes A))
take_applies A (x ∷ ts) s t h =
    take_fits A x ts (applies_head strings bytes A (as_item x) (map as_item ts) h)
    ∙ take_applies (apply bytes A (as_item x ∷ [])) ts (one_sorted A (as_item x) s) t.1 (rest_applies A (as_item x) (map as_item ts) s t h)
    ∙ ap all (first_then A (as_item x) (map as_item ts) s t)
