-- Laws of the walk: its steps, that it ascends, and what stands at a key afterwards.
use mathlib.Core.Path.{◌≡◌, refl, sym, ap, ◌∙◌}
use mathlib.Core.List.{List, [], ◌∷◌}
use mathlib.Core.Option.{Option, none, some}
use Rattle.std.specs.declared.cmp.Ordering.{Ordering}
use Rattle.std.specs.declared.cmp.Ordering.TheVariants.{Less, Equal, Greater}
use Rattle.order.specs.Comparison.{flip, TotalOrder}
use Rattle.order.specs.Map.{Item, own, lookup, Below, Sorted}
use Rattle.order.specs.Walk.{emit, walk}
use Rattle.order.proofs.Map.{below_trans, absent_at}

module _ {K : Type 0} {cmp : K → K → Ordering} (O : TotalOrder cmp) {C : Type 0} where
  pub below_emit : (k l : K) (o : Option C) (r : List (Item K C)) → cmp k l ≡ Less → Below cmp k r → Below cmp k (emit l o r)
  below_emit k l none r p q = q
  below_emit k l (some c) r p q = p

  pub sorted_emit : (l : K) (o : Option C) (r : List (Item K C)) → Below cmp l r → Sorted cmp r → Sorted cmp (emit l o r)
  sorted_emit l none r p s = s
  sorted_emit l (some c) r p s = (p, s)

  pub lookup_emit : (k l : K) (o : Option C) (r : List (Item K C)) → Below cmp l r → Sorted cmp r →
      lookup cmp k (emit l o r) ≡ own (cmp k l) o (lookup cmp k r)
  lookup_emit k l o r p s = go (cmp k l) refl o
    where
      go : (c : Ordering) → cmp k l ≡ c → (o : Option C) → lookup cmp k (emit l o r) ≡ own c o (lookup cmp k r)
      go Less e none = refl
      go Less e (some v) = rw e
      go Equal e none = absent_at O k l r e p s
      go Equal e (some v) = rw e
      go Greater e none = refl
      go Greater e (some v) = rw e

module _ {K A B C : Type 0} (cmp : K → K → Ordering) (f : Option A → Option B → Option C) where
  -- its equations: where one side has run out, and by the comparison of the two first keys
  pub walk_nil : walk cmp f [] [] ≡ []
  unfolding walk
  walk_nil = refl

  pub walk_right : (y : Item K B) (b : List (Item K B)) → walk cmp f [] (y ∷ b) ≡ emit y.key (f none (some y.val)) (walk cmp f [] b)
  unfolding walk
  walk_right y b = refl

  pub walk_left : (x : Item K A) (a : List (Item K A)) → walk cmp f (x ∷ a) [] ≡ emit x.key (f (some x.val) none) (walk cmp f a [])
  unfolding walk
  walk_left x a = refl

  module _ (x : Item K A) (a : List (Item K A)) (y : Item K B) (b : List (Item K B)) where
    pub walk_less : cmp x.key y.key ≡ Less → walk cmp f (x ∷ a) (y ∷ b) ≡ emit x.key (f (some x.val) none) (walk cmp f a (y ∷ b))
    unfolding walk
    walk_less e = rw (e, walk)

    pub walk_equal : cmp x.key y.key ≡ Equal → walk cmp f (x ∷ a) (y ∷ b) ≡ emit x.key (f (some x.val) (some y.val)) (walk cmp f a b)
    unfolding walk
    walk_equal e = rw (e, walk)

    pub walk_greater : cmp x.key y.key ≡ Greater → walk cmp f (x ∷ a) (y ∷ b) ≡ emit y.key (f none (some y.val)) (walk cmp f (x ∷ a) b)
    unfolding walk
    walk_greater e = rw (e, walk)

module _ {K A B C : Type 0} {cmp : K → K → Ordering} (O : TotalOrder cmp) (f : Option A → Option B → Option C) where
  -- what the two sides yield alone and together
  abbrev one : Item K A → Option C
  one x = f (some x.val) none

  abbrev two : Item K B → Option C
  two y = f none (some y.val)

  abbrev both : Item K A → Item K B → Option C
  both x y = f (some x.val) (some y.val)

  -- it yields no key below its lists' own
  pub walk_below : (k : K) (a : List (Item K A)) (b : List (Item K B)) → Below cmp k a → Sorted cmp a → Below cmp k b → Sorted cmp b → Below cmp k (walk cmp f a b)
  walk_below k [] [] p s q t = rw walk_nil tt
  walk_below k [] (y ∷ b) p s q t =
      rw walk_right (below_emit O k y.key (two y) (walk cmp f [] b) q (walk_below k [] b tt tt (below_trans O k y.key b q t.0) t.1))
  walk_below k (x ∷ a) [] p s q t =
      rw walk_left (below_emit O k x.key (one x) (walk cmp f a []) p (walk_below k a [] (below_trans O k x.key a p s.0) s.1 tt tt))
  walk_below k (x ∷ a) (y ∷ b) p s q t = go (cmp x.key y.key) refl
      (walk_below k a (y ∷ b) (below_trans O k x.key a p s.0) s.1 q t)
      (walk_below k a b (below_trans O k x.key a p s.0) s.1 (below_trans O k y.key b q t.0) t.1)
      (walk_below k (x ∷ a) b p s (below_trans O k y.key b q t.0) t.1)
    where
      go : (o : Ordering) → cmp x.key y.key ≡ o → Below cmp k (walk cmp f a (y ∷ b)) → Below cmp k (walk cmp f a b) → Below cmp k (walk cmp f (x ∷ a) b) →
          Below cmp k (walk cmp f (x ∷ a) (y ∷ b))
      go Less e h i j = rw (walk_less cmp f x a y b e) (below_emit O k x.key (one x) (walk cmp f a (y ∷ b)) p h)
      go Equal e h i j = rw (walk_equal cmp f x a y b e) (below_emit O k x.key (both x y) (walk cmp f a b) p i)
      go Greater e h i j = rw (walk_greater cmp f x a y b e) (below_emit O k y.key (two y) (walk cmp f (x ∷ a) b) q j)

  -- below the rest of a walk: after the left head, after both, after the right head
  module _ (x : Item K A) (a : List (Item K A)) (y : Item K B) (b : List (Item K B)) (s : Sorted cmp (x ∷ a)) (t : Sorted cmp (y ∷ b)) where
    pub rest_less : cmp x.key y.key ≡ Less → Below cmp x.key (walk cmp f a (y ∷ b))
    rest_less e = walk_below x.key a (y ∷ b) s.0 s.1 e t

    pub rest_equal : cmp x.key y.key ≡ Equal → Below cmp x.key (walk cmp f a b)
    rest_equal e = walk_below x.key a b s.0 s.1 (rw (O.same x.key y.key e) t.0) t.1

    pub rest_greater : cmp x.key y.key ≡ Greater → Below cmp y.key (walk cmp f (x ∷ a) b)
    rest_greater e = walk_below y.key (x ∷ a) b (O.turn x.key y.key ∙ ap flip e) s t.0 t.1

  -- a walk cmp f of ascending lists ascends
  pub walk_sorted : (a : List (Item K A)) (b : List (Item K B)) → Sorted cmp a → Sorted cmp b → Sorted cmp (walk cmp f a b)
  walk_sorted [] [] s t = rw walk_nil tt
  walk_sorted [] (y ∷ b) s t =
      rw walk_right (sorted_emit O y.key (two y) (walk cmp f [] b) (walk_below y.key [] b tt tt t.0 t.1) (walk_sorted [] b tt t.1))
  walk_sorted (x ∷ a) [] s t =
      rw walk_left (sorted_emit O x.key (one x) (walk cmp f a []) (walk_below x.key a [] s.0 s.1 tt tt) (walk_sorted a [] s.1 tt))
  walk_sorted (x ∷ a) (y ∷ b) s t = go (cmp x.key y.key) refl
      (walk_sorted a (y ∷ b) s.1 t) (walk_sorted a b s.1 t.1) (walk_sorted (x ∷ a) b s t.1)
    where
      go : (o : Ordering) → cmp x.key y.key ≡ o → Sorted cmp (walk cmp f a (y ∷ b)) → Sorted cmp (walk cmp f a b) → Sorted cmp (walk cmp f (x ∷ a) b) →
          Sorted cmp (walk cmp f (x ∷ a) (y ∷ b))
      go Less e h i j = rw (walk_less cmp f x a y b e) (sorted_emit O x.key (one x) (walk cmp f a (y ∷ b)) (rest_less x a y b s t e) h)
      go Equal e h i j = rw (walk_equal cmp f x a y b e) (sorted_emit O x.key (both x y) (walk cmp f a b) (rest_equal x a y b s t e) i)
      go Greater e h i j = rw (walk_greater cmp f x a y b e) (sorted_emit O y.key (two y) (walk cmp f (x ∷ a) b) (rest_greater x a y b s t e) j)

  -- a walk cmp f is f at each key
  module _ (f-none : f none none ≡ none) where
    pub walk_lookup : (k : K) (a : List (Item K A)) (b : List (Item K B)) → Sorted cmp a → Sorted cmp b →
        lookup cmp k (walk cmp f a b) ≡ f (lookup cmp k a) (lookup cmp k b)
    walk_lookup k [] [] s t = rw walk_nil (sym f-none)
    walk_lookup k [] (y ∷ b) s t =
        rw (walk_right cmp f y b, lookup_emit O k y.key (two y) (walk cmp f [] b) (walk_below y.key [] b tt tt t.0 t.1) (walk_sorted [] b tt t.1))
        (go (cmp k y.key) (walk_lookup k [] b tt t.1))
      where
        go : (o : Ordering) → lookup cmp k (walk cmp f [] b) ≡ f none (lookup cmp k b) → own o (two y) (lookup cmp k (walk cmp f [] b)) ≡ f none (own o (some y.val) (lookup cmp k b))
        go Less h = h
        go Equal h = refl
        go Greater h = h
    walk_lookup k (x ∷ a) [] s t =
        rw (walk_left cmp f x a, lookup_emit O k x.key (one x) (walk cmp f a []) (walk_below x.key a [] s.0 s.1 tt tt) (walk_sorted a [] s.1 tt))
        (go (cmp k x.key) (walk_lookup k a [] s.1 tt))
      where
        go : (o : Ordering) → lookup cmp k (walk cmp f a []) ≡ f (lookup cmp k a) none → own o (one x) (lookup cmp k (walk cmp f a [])) ≡ f (own o (some x.val) (lookup cmp k a)) none
        go Less h = h
        go Equal h = refl
        go Greater h = h
    walk_lookup k (x ∷ a) (y ∷ b) s t = go (cmp x.key y.key) refl
        (walk_lookup k a (y ∷ b) s.1 t) (walk_lookup k a b s.1 t.1) (walk_lookup k (x ∷ a) b s t.1)
      where
        left : (o : Ordering) → cmp x.key y.key ≡ Less → cmp k x.key ≡ o → lookup cmp k (walk cmp f a (y ∷ b)) ≡ f (lookup cmp k a) (lookup cmp k (y ∷ b)) →
            own o (one x) (lookup cmp k (walk cmp f a (y ∷ b))) ≡ f (own o (some x.val) (lookup cmp k a)) (lookup cmp k (y ∷ b))
        left Less e c h = h
        left Equal e c h = cc (absent_at O k x.key (y ∷ b) c e t)
        left Greater e c h = h

        mid : (o : Ordering) → lookup cmp k (walk cmp f a b) ≡ f (lookup cmp k a) (lookup cmp k b) →
            own o (both x y) (lookup cmp k (walk cmp f a b)) ≡ f (own o (some x.val) (lookup cmp k a)) (own o (some y.val) (lookup cmp k b))
        mid Less h = h
        mid Equal h = refl
        mid Greater h = h

        right : (o : Ordering) → cmp y.key x.key ≡ Less → cmp k y.key ≡ o → lookup cmp k (walk cmp f (x ∷ a) b) ≡ f (lookup cmp k (x ∷ a)) (lookup cmp k b) →
            own o (two y) (lookup cmp k (walk cmp f (x ∷ a) b)) ≡ f (lookup cmp k (x ∷ a)) (own o (some y.val) (lookup cmp k b))
        right Less e c h = h
        right Equal e c h = cc (absent_at O k y.key (x ∷ a) c e s)
        right Greater e c h = h

        go : (o : Ordering) → cmp x.key y.key ≡ o → lookup cmp k (walk cmp f a (y ∷ b)) ≡ f (lookup cmp k a) (lookup cmp k (y ∷ b)) →
            lookup cmp k (walk cmp f a b) ≡ f (lookup cmp k a) (lookup cmp k b) → lookup cmp k (walk cmp f (x ∷ a) b) ≡ f (lookup cmp k (x ∷ a)) (lookup cmp k b) →
            lookup cmp k (walk cmp f (x ∷ a) (y ∷ b)) ≡ f (lookup cmp k (x ∷ a)) (lookup cmp k (y ∷ b))
        go Less e h i j =
            rw (walk_less cmp f x a y b e, lookup_emit O k x.key (one x) (walk cmp f a (y ∷ b)) (rest_less x a y b s t e) (walk_sorted a (y ∷ b) s.1 t))
            (left (cmp k x.key) e refl h)
        go Equal e h i j =
            rw (
              walk_equal cmp f x a y b e,
              lookup_emit O k x.key (both x y) (walk cmp f a b) (rest_equal x a y b s t e) (walk_sorted a b s.1 t.1),
              ← O.same x.key y.key e,
            ) (mid (cmp k x.key) i)
        go Greater e h i j =
            rw (walk_greater cmp f x a y b e, lookup_emit O k y.key (two y) (walk cmp f (x ∷ a) b) (rest_greater x a y b s t e) (walk_sorted (x ∷ a) b s t.1))
            (right (cmp k y.key) (O.turn x.key y.key ∙ ap flip e) refl j)
