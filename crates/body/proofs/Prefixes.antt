-- The bits of an address past its prefix, and the body of an origin.
use Prim.Native.Nat.{ℕ, ◌<◌, ◌≤◌}
use mathlib.Core.Path.{◌≡◌}
use mathlib.Core.List.{List}
use mathlib.Core.Bool.{Bool, false}
use borrow.Author.Tests.{le-leb, lt-leb, eq-eqb, ne_eqb}
use lib.ListN.{length, get_or, take, drop}
use Rattle.body.specs.Origin.{clean, good_prefix, good_origin}

-- ---- the body

module _ (bound p m : ℕ) (b : List ℕ) (e : p ≡ get_or b 17 0) (f : m ≡ get_or b 18 0) where
  pub prefix_low : m < p → false ≡ good_prefix bound b
  unfolding good_prefix
  prefix_low h = rw (← e, ← f, lt-leb p m h)

  pub prefix_high : p ≤ m → bound < m → false ≡ good_prefix bound b
  unfolding good_prefix
  prefix_high h k = rw (← e, ← f, le-leb p m h, lt-leb m bound k)

  pub prefix_rest : (r : Bool) → p ≤ m → m ≤ bound → r ≡ clean p (take 16 (drop 1 b)) → r ≡ good_prefix bound b
  unfolding good_prefix
  prefix_rest r h k q = rw (← e, ← f, le-leb p m h, le-leb m bound k, q)

module _ (b : List ℕ) where
  pub origin_long : (length b ≡ 23 → ⊥) → false ≡ good_origin b
  unfolding good_origin
  origin_long n = rw (ne_eqb (length b) 23 n)

  pub origin_four : (r : Bool) → length b ≡ 23 → get_or b 0 0 ≡ 4 → r ≡ good_prefix 32 b → r ≡ good_origin b
  unfolding good_origin
  origin_four r h e q = rw (eq-eqb (length b) 23 h, e, q)

  pub origin_six : (r : Bool) → length b ≡ 23 → get_or b 0 0 ≡ 6 → r ≡ good_prefix 128 b → r ≡ good_origin b
  unfolding good_origin
  origin_six r h e q = rw (eq-eqb (length b) 23 h, e, q)

  pub origin_other : length b ≡ 23 → (get_or b 0 0 ≡ 4 → ⊥) → (get_or b 0 0 ≡ 6 → ⊥) → false ≡ good_origin b
  unfolding good_origin
  origin_other h m n = rw (eq-eqb (length b) 23 h, ne_eqb (get_or b 0 0) 4 m, ne_eqb (get_or b 0 0) 6 n)

pub ruleset origins = (prefix_low, prefix_high, prefix_rest, origin_long, origin_four, origin_six, origin_other)
