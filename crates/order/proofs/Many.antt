-- Laws of the walk over many lists: one turn at the least of their first keys.
use mathlib.Core.Path.{◌≡◌, refl, sym, ap, ◌∙◌}
use mathlib.Core.List.{List, [], ◌∷◌, map, foldl}
use mathlib.Core.Option.{Option, none, some, some-injective}
use Rattle.std.specs.declared.cmp.Ordering.{Ordering}
use Rattle.std.specs.declared.cmp.Ordering.TheVariants.{Less, Equal, Greater}
use Rattle.order.specs.Comparison.{flip, TotalOrder}
use Rattle.order.specs.Map.{Item, All, own, lookup, Below, Sorted}
use Rattle.order.specs.Walk.{emit, walk}
use Rattle.order.specs.Many.{walk_all, lower_of, lower, least, past_of, past, first}
use Rattle.order.proofs.Comparison.{less≢equal, less≢greater, equal≢greater, AtMost, at_most_self, at_most_trans}
use Rattle.order.proofs.Map.{below_trans, absent, ext, none≢some}
use Rattle.order.proofs.Walk.{sorted_emit, lookup_emit, walk_nil, walk_below, walk_sorted, walk_lookup}

-- the key does not stand above one that may be there
abbrev LowAt : {K : Type 0} {cmp : K → K → Ordering} → TotalOrder cmp → K → Option K → Type 0
LowAt O k none = Unit {0}
LowAt O k (some l) = AtMost O k l

module _ {K A : Type 0} {cmp : K → K → Ordering} (O : TotalOrder cmp) where
  -- the key does not stand above a list's first
  abbrev pub NotPast : K → List (Item K A) → Type 0
  NotPast k [] = Unit {0}
  NotPast k (x ∷ a) = AtMost O k x.key

  past_below : (k : K) (a : List (Item K A)) → NotPast k a → Sorted cmp a → Below cmp k (past cmp k a)
  past_below k [] h s = tt
  past_below k (x ∷ a) h s = go (cmp k x.key) refl
    where
      go : (o : Ordering) → cmp k x.key ≡ o → Below cmp k (past_of o x a)
      go Less e = e
      go Equal e = rw (O.same k x.key e) s.0
      go Greater e = absurd (h e)

  pub past_sorted : (k : K) (a : List (Item K A)) → Sorted cmp a → Sorted cmp (past cmp k a)
  past_sorted k [] s = tt
  past_sorted k (x ∷ a) s = go (cmp k x.key)
    where
      go : (o : Ordering) → Sorted cmp (past_of o x a)
      go Less = s
      go Equal = s.1
      go Greater = s

  -- at any other key nothing is lost
  past_lookup : (k l : K) (a : List (Item K A)) → ¬ (cmp l k ≡ Equal) → lookup cmp l (past cmp k a) ≡ lookup cmp l a
  past_lookup k l [] h = refl
  past_lookup k l (x ∷ a) h = go (cmp k x.key) refl (cmp l x.key) refl
    where
      go : (o : Ordering) → cmp k x.key ≡ o → (r : Ordering) → cmp l x.key ≡ r →
          lookup cmp l (past_of o x a) ≡ own r (some x.val) (lookup cmp l a)
      go Less e r d = ap (λ (c : Ordering). own c (some x.val) (lookup cmp l a)) d
      go Equal e Less d = refl
      go Equal e Equal d = absurd (h (rw (O.same l x.key d, ← O.same k x.key e) (O.self k)))
      go Equal e Greater d = refl
      go Greater e r d = ap (λ (c : Ordering). own c (some x.val) (lookup cmp l a)) d

  pub pasts_sorted : (k : K) (ls : List (List (Item K A))) → All (Sorted cmp) ls → All (Sorted cmp) (map (past cmp k) ls)
  pasts_sorted k [] h = tt
  pasts_sorted k (a ∷ ls) h = (past_sorted k a h.0, pasts_sorted k ls h.1)

  pasts_below : (k : K) (ls : List (List (Item K A))) → All (NotPast k) ls → All (Sorted cmp) ls → All (Below cmp k) (map (past cmp k) ls)
  pasts_below k [] p h = tt
  pasts_below k (a ∷ ls) p h = (past_below k a p.0 h.0, pasts_below k ls p.1 h.1)

  pasts_lookup : (k l : K) (ls : List (List (Item K A))) → ¬ (cmp l k ≡ Equal) →
      map (lookup cmp l) (map (past cmp k) ls) ≡ map (lookup cmp l) ls
  pasts_lookup k l [] h = refl
  pasts_lookup k l (a ∷ ls) h = cc (past_lookup k l a h, pasts_lookup k l ls h)

  -- what a list says of a key not above its first stands at its first item, or nowhere
  first_lookup : (k : K) (a : List (Item K A)) → NotPast k a → Sorted cmp a → lookup cmp k a ≡ first cmp k a
  first_lookup k [] h s = refl
  first_lookup k (x ∷ a) h s = go (cmp k x.key) refl
    where
      go : (o : Ordering) → cmp k x.key ≡ o → own o (some x.val) (lookup cmp k a) ≡ own o (some x.val) none
      go Less e = absent O k a (below_trans O k x.key a e s.0) s.1
      go Equal e = refl
      go Greater e = absurd (h e)

  firsts : (k : K) (ls : List (List (Item K A))) → All (NotPast k) ls → All (Sorted cmp) ls → map (lookup cmp k) ls ≡ map (first cmp k) ls
  firsts k [] p h = refl
  firsts k (a ∷ ls) p h = cc (first_lookup k a p.0 h.0, firsts k ls p.1 h.1)

  lower_low : (k : K) (o : Option K) (a : List (Item K A)) → LowAt O k (lower cmp o a) → LowAt O k o × NotPast k a
  lower_low k none [] h = (h, tt)
  lower_low k (some l) [] h = (h, tt)
  lower_low k none (x ∷ a) h = (tt, h)
  lower_low k (some l) (x ∷ a) h = go (cmp l x.key) refl h
    where
      go : (o : Ordering) → cmp l x.key ≡ o → AtMost O k (lower_of o l x.key) → AtMost O k l × AtMost O k x.key
      go Less e h = (h, at_most_trans O k l x.key h (λ q. less≢greater e q))
      go Equal e h = (h, at_most_trans O k l x.key h (λ q. equal≢greater e q))
      go Greater e h = (at_most_trans O k x.key l h (λ q. less≢greater (O.turn l x.key ∙ ap flip e) q), h)

  least_low : (k : K) (o : Option K) (ls : List (List (Item K A))) → foldl (lower cmp) o ls ≡ some k → LowAt O k o × All (NotPast k) ls
  least_low k none [] e = (tt, tt)
  least_low k (some l) [] e = (rw (some-injective l k e) (at_most_self O k), tt)
  least_low k o (a ∷ ls) e =
      let h : LowAt O k (lower cmp o a) × All (NotPast k) ls = least_low k (lower cmp o a) ls e in
      let g : LowAt O k o × NotPast k a = lower_low k o a h.0 in
      (g.0, (g.1, h.1))

  -- once found, a least key stays found
  least_stays : (k : K) (ls : List (List (Item K A))) → ¬ (foldl (lower cmp) (some k) ls ≡ none)
  least_stays k [] e = none≢some e refl
  least_stays k ([] ∷ ls) e = least_stays k ls e
  least_stays k ((x ∷ a) ∷ ls) e = least_stays (lower_of (cmp k x.key) k x.key) ls e

  module _ (f : Option A → Option A → Option A) (f-none : f none none ≡ none) where
    -- a fold of walks: it ascends, is f folded at each key, and yields no key below its lists' own
    pub fold_sorted : (a : List (Item K A)) (ls : List (List (Item K A))) → Sorted cmp a → All (Sorted cmp) ls →
        Sorted cmp (foldl (walk cmp f) a ls)
    fold_sorted a [] s h = s
    fold_sorted a (b ∷ ls) s h = fold_sorted (walk cmp f a b) ls (walk_sorted O f a b s h.0) h.1

    pub fold_lookup : (k : K) (a : List (Item K A)) (ls : List (List (Item K A))) → Sorted cmp a → All (Sorted cmp) ls →
        lookup cmp k (foldl (walk cmp f) a ls) ≡ foldl f (lookup cmp k a) (map (lookup cmp k) ls)
    fold_lookup k a [] s h = refl
    fold_lookup k a (b ∷ ls) s h =
        fold_lookup k (walk cmp f a b) ls (walk_sorted O f a b s h.0) h.1 ∙ rw (walk_lookup O f f-none k a b s h.0)

    pub fold_below : (k : K) (a : List (Item K A)) (ls : List (List (Item K A))) → Below cmp k a → Sorted cmp a → All (Below cmp k) ls →
        All (Sorted cmp) ls → Below cmp k (foldl (walk cmp f) a ls)
    fold_below k a [] p s q h = p
    fold_below k a (b ∷ ls) p s q h =
        fold_below k (walk cmp f a b) ls (walk_below O f k a b p s q.0 h.0) (walk_sorted O f a b s h.0) q.1 h.1

    -- one turn, at a key that stands above none of the lists' firsts
    many_step : (k : K) (ls : List (List (Item K A))) → All (NotPast k) ls → All (Sorted cmp) ls →
        walk_all cmp f ls ≡ emit k (foldl f none (map (lookup cmp k) ls)) (walk_all cmp f (map (past cmp k) ls))
    many_step k ls p h = ext O (walk_all cmp f ls) (emit k here rest) (fold_sorted [] ls tt h) (sorted_emit O k here rest low up)
        (λ l. fold_lookup l [] ls tt h ∙ sym (lookup_emit O l k here rest low up ∙ go l (cmp l k) refl))
      where
        here : Option A
        here = foldl f none (map (lookup cmp k) ls)

        rest : List (Item K A)
        rest = walk_all cmp f (map (past cmp k) ls)

        up : Sorted cmp rest
        up = fold_sorted [] (map (past cmp k) ls) tt (pasts_sorted k ls h)

        low : Below cmp k rest
        low = fold_below k [] (map (past cmp k) ls) tt tt (pasts_below k ls p h) (pasts_sorted k ls h)

        other : (l : K) → ¬ (cmp l k ≡ Equal) → lookup cmp l rest ≡ foldl f none (map (lookup cmp l) ls)
        other l n = fold_lookup l [] (map (past cmp k) ls) tt (pasts_sorted k ls h) ∙ rw (pasts_lookup k l ls n)

        go : (l : K) (o : Ordering) → cmp l k ≡ o → own o here (lookup cmp l rest) ≡ foldl f none (map (lookup cmp l) ls)
        go l Less e = other l (λ q. less≢equal e q)
        go l Equal e = rw (O.same l k e)
        go l Greater e = other l (λ q. equal≢greater q e)

    -- where there is no least key, nothing is left
    pub least_none : (ls : List (List (Item K A))) → least cmp ls ≡ none → walk_all cmp f ls ≡ []
    least_none [] e = refl
    least_none ([] ∷ ls) e = ap (λ (a : List (Item K A)). foldl (walk cmp f) a ls) (walk_nil cmp f) ∙ least_none ls e
    least_none ((x ∷ a) ∷ ls) e = absurd (least_stays x.key ls e)

    -- else the least key goes first, with f folded over what the lists' first items say of it, and the walk goes on behind it
    pub least_step : (k : K) (ls : List (List (Item K A))) → least cmp ls ≡ some k → All (Sorted cmp) ls →
        walk_all cmp f ls ≡ emit k (foldl f none (map (first cmp k) ls)) (walk_all cmp f (map (past cmp k) ls))
    least_step k ls e h =
        let p : All (NotPast k) ls = (least_low k none ls e).1 in
        rw (← firsts k ls p h) (many_step k ls p h)
