-- Laws of the sums.
use Prim.Native.Nat.{ℕ, ◌+◌, ◌-◌, ◌*◌, ◌^◌, ◌<◌, ◌≤◌}
use mathlib.Core.Path.{◌≡◌, refl, sym, ◌∙◌}
use mathlib.Core.List.{List, [], ◌∷◌, ◌++◌}
use mathlib.Core.Bool.{Bool, true, false, cond}
use native.Mathlib.Omega.{arith}
use lib.ListN.{length}
use Rattle.number.proofs.Eights.{Octets}
use Rattle.payload.specs.Content.{Bytes}
use Rattle.heard.specs.declared.sums.Sums.{Sums}
use Rattle.heard.specs.Place.{type_at, size_at, key_at, announces_at, Sized, v4, v6, key, Payload}
use Rattle.heard.specs.Field.{record_field}
use Rattle.heard.specs.Heard.{count_flags, sum_fields}
use Rattle.heard.specs.Step.{plus_at, Small, Summed}
use Rattle.heard.proofs.Places.{size_least}
use Rattle.heard.proofs.Putting.{four_size, six_size, key_size_lem}

-- ---- field_size

module _ (s : Bytes) (at : ℕ) (o : Octets s) (p : Payload s at) where
  module _ (k : ℕ) (d : k ≡ type_at s at) where
    pub key_field : k ≡ 9 → (n : ℕ) → n ≡ size_at s at → n - 5 ≡ length (record_field (key_at s at))
    key_field e n f = key_size_lem s at (record { payload = p; type = sym d ∙ e }) n f

    pub prefix_field : (k ≡ 9 → ⊥) → 26 ≡ length (record_field (key_at s at))
    prefix_field h = go p.sized
      where
        go : Sized s at → 26 ≡ length (record_field (key_at s at))
        go (v4 t n) = four_size s at o p k d (d ∙ t)
        go (v6 t n) = six_size s at o p k d (d ∙ t)
        go (key t n m) = absurd (h (d ∙ t))

  pub field_bound : length (record_field (key_at s at)) ≤ 2 * size_at s at
  field_bound = go p.sized
    where
      go : Sized s at → length (record_field (key_at s at)) ≤ 2 * size_at s at
      go (v4 t n) = omega (arith, four_size s at o p (type_at s at) refl t, size_least s at p)
      go (v6 t n) = omega (arith, six_size s at o p (type_at s at) refl t, size_least s at p)
      go (key t n m) = omega (arith, key_size_lem s at (record { payload = p; type = t }) (size_at s at) refl)

  -- ---- plus

  module _ (c : Sums) (h : Small s at c) (n : ℕ) (e : n ≡ length (record_field (key_at s at))) where
    pub more_room : c.more + n < 2 ^ 64
    more_room = omega (arith, h.short, h.more, field_bound, p.within)

    pub less_room : c.less + n < 2 ^ 64
    less_room = omega (arith, h.short, h.less, field_bound, p.within)

    pub plus_announced : (b : Bool) → b ≡ announces_at s at → b ≡ true
        → record { announced = c.announced + 1; withdrawn = c.withdrawn; more = c.more + n; less = c.less } ≡ plus_at s at c
    plus_announced b d f = rw (← d, f, e)

    pub plus_withdrawn : (b : Bool) → b ≡ announces_at s at → b ≡ false
        → record { announced = c.announced; withdrawn = c.withdrawn + 1; more = c.more; less = c.less + n } ≡ plus_at s at c
    plus_withdrawn b d f = rw (← d, f, e)

pub ruleset summing = (key_field, prefix_field, more_room, less_room, plus_announced, plus_withdrawn)

-- ---- one message more

module _ (s : Bytes) (b : Bool) (x : ℕ) where
  pub count_more : (xs : List ℕ) → count_flags s b (xs ++ (x ∷ [])) ≡ count_flags s b xs + cond (announces_at s x) (cond b 1 0) (cond b 0 1)
  unfolding count_flags
  count_more [] = omega arith
  count_more (y ∷ xs) = let e = count_more xs in omega (arith, e)

  pub sum_more : (xs : List ℕ) → sum_fields s b (xs ++ (x ∷ []))
      ≡ sum_fields s b xs + cond (announces_at s x) (cond b (length (record_field (key_at s x))) 0) (cond b 0 (length (record_field (key_at s x))))
  unfolding sum_fields
  sum_more [] = omega arith
  sum_more (y ∷ xs) = let e = sum_more xs in omega (arith, e)

pub summed_more : (s : Bytes) (xs : List ℕ) (c : Sums) → Summed s xs c → (x : ℕ) → Summed s (xs ++ (x ∷ [])) (plus_at s x c)
summed_more s xs c h x = go (announces_at s x) refl
  where
    go : (b : Bool) → announces_at s x ≡ b → Summed s (xs ++ (x ∷ [])) (cond b
        (record { announced = c.announced + 1; withdrawn = c.withdrawn; more = c.more + length (record_field (key_at s x)); less = c.less })
        (record { announced = c.announced; withdrawn = c.withdrawn + 1; more = c.more; less = c.less + length (record_field (key_at s x)) }))
    go true e =
        let p = rw e at (count_more s true x xs) in
        let q = rw e at (count_more s false x xs) in
        let r = rw e at (sum_more s true x xs) in
        let t = rw e at (sum_more s false x xs) in
        record { announced = omega (arith, h.announced, p); withdrawn = omega (arith, h.withdrawn, q); more = omega (arith, h.more, r); less = omega (arith, h.less, t) }
    go false e =
        let p = rw e at (count_more s true x xs) in
        let q = rw e at (count_more s false x xs) in
        let r = rw e at (sum_more s true x xs) in
        let t = rw e at (sum_more s false x xs) in
        record { announced = omega (arith, h.announced, p); withdrawn = omega (arith, h.withdrawn, q); more = omega (arith, h.more, r); less = omega (arith, h.less, t) }

pub small_more : (s : Bytes) (at : ℕ) → Octets s → Payload s at → (c : Sums) → Small s at c → Small s (at + size_at s at) (plus_at s at c)
small_more s at o p c h = go (announces_at s at)
  where
    go : (b : Bool) → Small s (at + size_at s at) (cond b
        (record { announced = c.announced + 1; withdrawn = c.withdrawn; more = c.more + length (record_field (key_at s at)); less = c.less })
        (record { announced = c.announced; withdrawn = c.withdrawn + 1; more = c.more; less = c.less + length (record_field (key_at s at)) }))
    go true =
        record {
          short = h.short;
          announced = omega (arith, h.announced, size_least s at p);
          withdrawn = omega (arith, h.withdrawn);
          more = omega (arith, h.more, field_bound s at o p);
          less = omega (arith, h.less);
        }
    go false =
        record {
          short = h.short;
          announced = omega (arith, h.announced);
          withdrawn = omega (arith, h.withdrawn, size_least s at p);
          more = omega (arith, h.more);
          less = omega (arith, h.less, field_bound s at o p);
        }
