-- The difference is the shortest delta that leads from one snapshot to another.
use mathlib.Core.Path.{◌≡◌, refl, sym, ap, ◌∙◌}
use mathlib.Core.List.{List, [], ◌∷◌, map}
use mathlib.Core.Option.{Option, none, some}
use mathlib.Core.Bool.{true}
use Prim.Native.Nat.{ℕ, ◌+◌, ◌≤◌}
use native.Mathlib.Omega.{arith}
use lib.ListN.{length}
use Rattle.std.specs.declared.cmp.Ordering.{Ordering}
use Rattle.std.specs.declared.cmp.Ordering.TheVariants.{Less, Equal, Greater}
use Rattle.order.specs.Comparison.{flip, TotalOrder}
use Rattle.order.specs.Map.{Item, lookup, Sorted}
use Rattle.order.proofs.Never.{never}
use Rattle.order.proofs.Map.{none≢some, absent, absent_at}
use Rattle.change.specs.Change.{Change, announce, withdraw, update, unless_equal}
use Rattle.change.specs.Difference.{Snapshot, Delta, diff_at, diff}
use Rattle.change.specs.Application.{is_equal, apply_at, fits_at}
use Rattle.change.specs.Part.{Part, end, kept, left_out}
use Rattle.change.specs.Short.{LeadsTo, Short}
use Rattle.change.proofs.Tables.{diff_self}
use Rattle.change.proofs.Whole.{diff_sorted, diff_lookup, apply_lookup}

-- ---- a list with some members left out

-- whatever each member counts for, all of the part count for no more
abbrev pub total : {A : Type 0} → (A → ℕ) → List A → ℕ
total f [] = 0
total f (x ∷ l) = f x + total f l

pub part_total : {A : Type 0} (f : A → ℕ) {a b : List A} → Part a b → total f a ≤ total f b
part_total f end = omega arith
part_total f (kept x p) = omega (arith, part_total f p)
part_total f (left_out y p) = omega (arith, part_total f p)

pub part_length : {A : Type 0} {a b : List A} → Part a b → length a ≤ length b
part_length end = omega arith
part_length (kept x p) = omega (arith, part_length p)
part_length (left_out y p) = omega (arith, part_length p)

-- a part that is no shorter is the whole
pub part_whole : {A : Type 0} {a b : List A} → Part a b → length b ≤ length a → b ≡ a
part_whole end h = refl
part_whole (kept x {a} {b} p) h = ap (λ l. x ∷ l) (part_whole p (omega arith))
part_whole (left_out y p) h = absurd (omega (arith, part_length p))

pub part_map : {A B : Type 0} (f : A → B) {a b : List A} → Part a b → Part (map f a) (map f b)
part_map f end = end
part_map f (kept x p) = kept (f x) (part_map f p)
part_map f (left_out y p) = left_out (f y) (part_map f p)

module _ {K A : Type 0} {cmp : K → K → Ordering} (O : TotalOrder cmp) where
  -- what stands at each key of the one stands there in the other
  abbrev Agrees : List (Item K A) → List (Item K A) → Type 0
  Agrees a b = (k : K) (v : A) → lookup cmp k a ≡ some v → lookup cmp k b ≡ some v

  -- then the one is the other with some items left out
  pub part : (a b : List (Item K A)) → Sorted cmp a → Sorted cmp b → Agrees a b → Part a b
  part [] [] s t h = end
  part [] (y ∷ b) s t h = left_out y (part [] b tt t.1 (λ k v e. none≢some refl e))
  part (x ∷ a) [] s t h = none≢some {v = x.val} refl (h x.key x.val (rw (O.self x.key)))
  part (x ∷ a) (y ∷ b) s t h = go (cmp x.key y.key) refl (part a b s.1 t.1) (part (x ∷ a) b s t.1)
    where
      here : lookup cmp x.key (y ∷ b) ≡ some x.val
      here = h x.key x.val (rw (O.self x.key))

      both : x.key ≡ y.key → (k : K) (v : A) (o : Ordering) → cmp k x.key ≡ o → lookup cmp k a ≡ some v → lookup cmp k b ≡ some v
      both e k v Less c q = cc (h k v (cc))
      both e k v Equal c q = none≢some (absent_at O k x.key a c s.0 s.1) q
      both e k v Greater c q = cc (h k v (cc))

      right : cmp y.key x.key ≡ Less → (k : K) (v : A) (o : Ordering) → cmp k y.key ≡ o → lookup cmp k (x ∷ a) ≡ some v → lookup cmp k b ≡ some v
      right e k v Less c q = cc (h k v q)
      right e k v Equal c q = none≢some (absent_at O k y.key (x ∷ a) c e s) q
      right e k v Greater c q = cc (h k v q)

      same : x.key ≡ y.key → x.val ≡ y.val → x ≡ y
      same p q = λ i. record { key = p i; val = q i }

      go : (o : Ordering) → cmp x.key y.key ≡ o → (Agrees a b → Part a b) → (Agrees (x ∷ a) b → Part (x ∷ a) b) → Part (x ∷ a) (y ∷ b)
      go Less c i j = none≢some (absent O x.key (y ∷ b) c t) here
      go Equal c i j =
          let p : x.key ≡ y.key = O.same x.key y.key c in
          let q : x.val ≡ y.val = cc here in
          let e : x ≡ y = same p q in
          rw (← e) (kept x (i (λ k v r. both p k v (cmp k x.key) refl r)))
      go Greater c i j = left_out y (j (λ k v r. right (O.turn x.key y.key ∙ ap flip c) k v (cmp k y.key) refl r))

-- ---- at one key

module _ {W : Type 0} {cmp : W → W → Ordering} (P : TotalOrder cmp) where
  -- a former value that fits is the held one
  fits_same : (v p : W) → is_equal (cmp v p) ≡ true → v ≡ p
  fits_same v p = go (cmp v p) refl
    where
      go : (o : Ordering) → cmp v p ≡ o → is_equal o ≡ true → v ≡ p
      go Less c e = never cc
      go Equal c e = P.same v p c
      go Greater c e = never cc

  -- a change that fits, where the difference of before and after has one, is that one
  pub needed : (a : Option W) (d : Option (Change W)) (c : Change W) → fits_at cmp a d ≡ true → diff_at cmp a (apply_at a d) ≡ some c → d ≡ some c
  needed none none c f e = e
  needed none (some (announce n)) c f e = e
  needed none (some (withdraw p)) c f e = never cc
  needed none (some (update p n)) c f e = never cc
  needed (some v) none c f e = none≢some (diff_self P (some v)) e
  needed (some v) (some (announce n)) c f e = never cc
  needed (some v) (some (withdraw p)) c f e = cc (fits_same v p f)
  needed (some v) (some (update p n)) c f e = go (cmp v n) e
    where
      go : (o : Ordering) → unless_equal o (update v n) ≡ some c → some (update p n) ≡ some c
      go Less e = cc (fits_same v p f)
      go Equal e = none≢some refl e
      go Greater e = cc (fits_same v p f)

-- ---- whole deltas

module _ {K W : Type 0} {cmp : K → K → Ordering} (O : TotalOrder cmp) {val : W → W → Ordering} (P : TotalOrder val) where
  pub within : (A C : Snapshot K W) (D : Delta K W) → Sorted cmp A → Sorted cmp C → LeadsTo cmp val A C D → Part (diff cmp val A C) D
  within A C D s t l = part O (diff cmp val A C) D (diff_sorted O P A C s t) l.ascends agrees
    where
      after : (k : K) → lookup cmp k C ≡ apply_at (lookup cmp k A) (lookup cmp k D)
      after k = ap (lookup cmp k) (sym l.yields) ∙ apply_lookup O P A D s l.ascends k

      agrees : (k : K) (c : Change W) → lookup cmp k (diff cmp val A C) ≡ some c → lookup cmp k D ≡ some c
      agrees k c e =
          needed P (lookup cmp k A) (lookup cmp k D) c (l.applies k)
          (ap (diff_at val (lookup cmp k A)) (sym (after k)) ∙ sym (diff_lookup O P A C s t k) ∙ e)

  -- no delta that leads from A to C is shorter than the difference, and none other is as short
  pub shortest : (A C : Snapshot K W) (D : Delta K W) → Sorted cmp A → Sorted cmp C → LeadsTo cmp val A C D → Short cmp val A C D
  shortest A C D s t l =
      let p = within A C D s t l in
      record { within = p; items = part_length p; only = part_whole p }
