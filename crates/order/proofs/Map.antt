-- Laws of ascending lists: a key below one is not in it, and equal lookups make equal lists.
use mathlib.Core.Path.{◌≡◌, refl, ap, ◌∙◌}
use mathlib.Core.List.{List, [], ◌∷◌, ◌++◌}
use mathlib.Core.Option.{Option, none, some}
use Rattle.std.specs.declared.cmp.Ordering.{Ordering}
use Rattle.std.specs.declared.cmp.Ordering.TheVariants.{Less, Equal, Greater}
use Rattle.order.specs.Comparison.{flip, TotalOrder}
use Rattle.order.specs.Map.{Item, All, own, lookup, Below, Sorted}
use Rattle.order.proofs.Never.{never}

-- nothing is not something
pub none≢some : {X A : Type 0} {o : Option A} {v : A} → o ≡ none → o ≡ some v → X
none≢some p q = never cc

-- what holds for each of two lists holds for each of both together
pub all_append : {A : Type 0} (P : A → Type 0) (a b : List A) → All P a → All P b → All P (a ++ b)
all_append P [] b x y = y
all_append P (z ∷ a) b x y = (x.0, all_append P a b x.1 y)

module _ {K A : Type 0} {cmp : K → K → Ordering} (O : TotalOrder cmp) where
  pub below_trans : (k l : K) (a : List (Item K A)) → cmp k l ≡ Less → Below cmp l a → Below cmp k a
  below_trans k l [] p q = tt
  below_trans k l (x ∷ a) p q = O.trans k l x.key p q

  -- a key below an ascending list is not in it
  pub absent : (k : K) (a : List (Item K A)) → Below cmp k a → Sorted cmp a → lookup cmp k a ≡ none
  absent k [] b s = refl
  absent k (x ∷ a) b s = rw b (absent k a (below_trans k x.key a b s.0) s.1)

  -- so with a key that is equal to one below
  pub absent_at : (k l : K) (a : List (Item K A)) → cmp k l ≡ Equal → Below cmp l a → Sorted cmp a → lookup cmp k a ≡ none
  absent_at k l a e b s = rw (O.same k l e) (absent l a b s)

  -- lists that agree behind a common first key agree
  tails : (l : K) (v : Option A) (a b : List (Item K A)) → Below cmp l a → Sorted cmp a → Below cmp l b → Sorted cmp b → (k : K) →
      own (cmp k l) v (lookup cmp k a) ≡ own (cmp k l) v (lookup cmp k b) → lookup cmp k a ≡ lookup cmp k b
  tails l v a b p s q t k h = go (cmp k l) refl h
    where
      go : (o : Ordering) → cmp k l ≡ o → own o v (lookup cmp k a) ≡ own o v (lookup cmp k b) → lookup cmp k a ≡ lookup cmp k b
      go Less c h = h
      go Equal c h = cc (absent_at k l a c p s, absent_at k l b c q t)
      go Greater c h = h

  item_path : (x y : Item K A) → x.key ≡ y.key → x.val ≡ y.val → x ≡ y
  item_path x y p q = λ i. record { key = p i; val = q i }

  -- two ascending lists with the same lookups are one list
  pub ext : (a b : List (Item K A)) → Sorted cmp a → Sorted cmp b → ((k : K) → lookup cmp k a ≡ lookup cmp k b) → a ≡ b
  ext [] [] s t h = refl
  ext [] (y ∷ b) s t h = cc (h y.key, O.self y.key)
  ext (x ∷ a) [] s t h = cc (h x.key, O.self x.key)
  ext (x ∷ a) (y ∷ b) s t h = go (cmp x.key y.key) refl (ext a b s.1 t.1)
    where
      go : (o : Ordering) → cmp x.key y.key ≡ o → (((k : K) → lookup cmp k a ≡ lookup cmp k b) → a ≡ b) → x ∷ a ≡ y ∷ b
      go Less c ih = cc (h x.key, O.self x.key, absent x.key (y ∷ b) c t)
      go Equal c ih =
          let p : x.key ≡ y.key = O.same x.key y.key c in
          let q : x.val ≡ y.val = cc (h x.key, O.self x.key) in
          let e : x ≡ y = item_path x y p q in
          let t0 : Below cmp x.key b = rw p t.0 in
          let r : (k : K) → lookup cmp k a ≡ lookup cmp k b = λ k. tails x.key (some x.val) a b s.0 s.1 t0 t.1 k (rw (← e) at (h k)) in
          cc (e, ih r)
      go Greater c ih = cc (h y.key, O.self y.key, absent y.key (x ∷ a) (O.turn x.key y.key ∙ ap flip c) s)
