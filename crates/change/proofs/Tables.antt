-- The laws of difference, merge and application at one key.
use mathlib.Core.Path.{◌≡◌, refl, ◌∙◌}
use mathlib.Core.Option.{Option, none, some}
use mathlib.Core.Bool.{true}
use Rattle.std.specs.declared.cmp.Ordering.{Ordering}
use Rattle.std.specs.declared.cmp.Ordering.TheVariants.{Less, Equal, Greater}
use Rattle.order.specs.Comparison.{TotalOrder}
use Rattle.order.proofs.Never.{never}
use Rattle.change.specs.Change.{Change, announce, withdraw, update, unless_equal, replace}
use Rattle.change.specs.Difference.{diff_at}
use Rattle.change.specs.Merge.{merge_at}
use Rattle.change.specs.Application.{apply_at, fits_at}

module _ {W : Type 0} {cmp : W → W → Ordering} (P : TotalOrder cmp) where
  -- equal values are no change
  pub replace_same : (p n : W) → p ≡ n → replace cmp p n ≡ none
  replace_same p n e = rw (e, P.self n)

  pub merge_none : (c : Option (Change W)) → merge_at cmp none c ≡ c
  merge_none none = refl
  merge_none (some c) = refl

  pub none_merge : (c : Option (Change W)) → merge_at cmp c none ≡ c
  none_merge none = refl
  none_merge (some c) = refl

  pub diff_self : (a : Option W) → diff_at cmp a a ≡ none
  diff_self none = refl
  diff_self (some v) = replace_same v v refl

  -- no difference: nothing changed
  pub diff_none : (a b : Option W) → diff_at cmp a b ≡ none → a ≡ b
  diff_none none none e = refl
  diff_none none (some y) e = cc
  diff_none (some x) none e = cc
  diff_none (some x) (some y) e = go (cmp x y) refl e
    where
      go : (o : Ordering) → cmp x y ≡ o → unless_equal o (update x y) ≡ none → some x ≡ some y
      go Less c h = cc
      go Equal c h = cc (P.same x y c)
      go Greater c h = cc

  -- a over b to c: an equal step leaves the other as it is
  over : (x y z : W) → merge_at cmp (replace cmp x y) (replace cmp y z) ≡ replace cmp x z
  over x y z = go (cmp x y) refl (cmp y z) refl
    where
      first : cmp x y ≡ Equal → merge_at cmp none (replace cmp y z) ≡ replace cmp x z
      first e = merge_none (replace cmp y z) ∙ cc (P.same x y e)

      second : cmp y z ≡ Equal → merge_at cmp (replace cmp x y) none ≡ replace cmp x z
      second e = none_merge (replace cmp x y) ∙ cc (P.same y z e)

      go : (o : Ordering) → cmp x y ≡ o → (r : Ordering) → cmp y z ≡ r →
          merge_at cmp (unless_equal o (update x y)) (unless_equal r (update y z)) ≡ replace cmp x z
      go Less e Less d = refl
      go Less e Equal d = rw e at (second d)
      go Less e Greater d = refl
      go Equal e Less d = rw d at (first e)
      go Equal e Equal d = rw d at (first e)
      go Equal e Greater d = rw d at (first e)
      go Greater e Less d = refl
      go Greater e Equal d = rw e at (second d)
      go Greater e Greater d = refl

  -- from a over b to c is from a to c
  pub diff_merge : (a b c : Option W) → merge_at cmp (diff_at cmp a b) (diff_at cmp b c) ≡ diff_at cmp a c
  diff_merge none none c = merge_none (diff_at cmp none c)
  diff_merge none (some y) none = refl
  diff_merge none (some y) (some z) = go (cmp y z) refl
    where
      go : (o : Ordering) → cmp y z ≡ o → merge_at cmp (some (announce y)) (unless_equal o (update y z)) ≡ some (announce z)
      go Less e = refl
      go Equal e = cc (P.same y z e)
      go Greater e = refl
  diff_merge (some x) none none = refl
  diff_merge (some x) none (some z) = refl
  diff_merge (some x) (some y) none = go (cmp x y) refl
    where
      go : (o : Ordering) → cmp x y ≡ o → merge_at cmp (unless_equal o (update x y)) (some (withdraw y)) ≡ some (withdraw x)
      go Less e = refl
      go Equal e = cc (P.same x y e)
      go Greater e = refl
  diff_merge (some x) (some y) (some z) = over x y z

  -- the difference, applied to the old, is the new
  pub diff_apply : (a c : Option W) → apply_at a (diff_at cmp a c) ≡ c
  diff_apply none none = refl
  diff_apply none (some z) = refl
  diff_apply (some x) none = refl
  diff_apply (some x) (some z) = go (cmp x z) refl
    where
      go : (o : Ordering) → cmp x z ≡ o → apply_at (some x) (unless_equal o (update x z)) ≡ some z
      go Less e = refl
      go Equal e = cc (P.same x z e)
      go Greater e = refl

  -- and fits it
  pub diff_fits : (a c : Option W) → fits_at cmp a (diff_at cmp a c) ≡ true
  diff_fits none none = refl
  diff_fits none (some z) = refl
  diff_fits (some x) none = rw (P.self x)
  diff_fits (some x) (some z) = go (cmp x z)
    where
      go : (o : Ordering) → fits_at cmp (some x) (unless_equal o (update x z)) ≡ true
      go Less = rw (P.self x)
      go Equal = refl
      go Greater = rw (P.self x)

  -- a difference is everything old withdrawn, merged with everything new announced
  pub diff_is_merge : (a b : Option W) → diff_at cmp a b ≡ merge_at cmp (diff_at cmp a none) (diff_at cmp none b)
  diff_is_merge none none = refl
  diff_is_merge none (some y) = refl
  diff_is_merge (some x) none = refl
  diff_is_merge (some x) (some y) = refl

  -- an application is everything held announced, merged with what fits it
  pub apply_is_merge : (a : Option W) (c : Option (Change W)) → fits_at cmp a c ≡ true →
      diff_at cmp none (apply_at a c) ≡ merge_at cmp (diff_at cmp none a) c
  apply_is_merge none none h = refl
  apply_is_merge none (some (announce n)) h = refl
  apply_is_merge none (some (withdraw p)) h = never cc
  apply_is_merge none (some (update p n)) h = never cc
  apply_is_merge (some v) none h = refl
  apply_is_merge (some v) (some (announce n)) h = refl
  apply_is_merge (some v) (some (withdraw p)) h = refl
  apply_is_merge (some v) (some (update p n)) h = refl
