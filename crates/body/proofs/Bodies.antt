-- The bodies of router keys, ASPAs and updates: each way through a check, with what the tests on that way said.
use Prim.Native.Nat.{ℕ, zero, suc, ◌+◌, ◌-◌, ◌*◌, ◌/◌, ◌%◌, ◌<◌, ◌≤◌}
use mathlib.Core.Path.{◌≡◌, refl, sym, ◌∙◌}
use mathlib.Core.List.{List, [], ◌∷◌}
use mathlib.Core.Bool.{Bool, true, false, not, ◌&&◌}
use native.Mathlib.Omega.{arith}
use borrow.Author.Tests.{le-leb, lt-leb, eq-eqb, ne_eqb, eqb-true, not-true, not-false}
use lib.Dec.{leb, eqb}
use lib.ListN.{length, take, drop, length-drop}
use lib.Seq.{take_all}
use Rattle.serial.specs.declared.Asn.{Asn}
use Rattle.number.specs.Number.{two_at, four_at, asn_at}
use Rattle.body.specs.RouterKey.{good_router_key}
use Rattle.body.specs.Aspa.{asns, ascending, good_providers, good_aspa, good_update, sensible_asns, sensible_providers, sensible_aspa, sensible_update}
use Rattle.body.specs.Sound.{sound_asns}
use Rattle.body.specs.Leaves.{Leaves}
use Rattle.body.proofs.Ascent.{senseless_none}
use Rattle.body.proofs.Sizes.{both}

-- a part that goes to the end, as `&b[k..]`
to_end : (b : List ℕ) (k : ℕ) → take (length b - k) (drop k b) ≡ drop k b
to_end b k = take_all (length b - k) (drop k b) (simp length-drop (omega arith))

module _ (b : List ℕ) where
  pub key_short : length b < 24 → false ≡ good_router_key b
  unfolding good_router_key
  key_short h = rw (lt-leb 24 (length b) h)

  pub key_rest : 24 ≤ length b → leb (length b - 24) 1_024 ≡ good_router_key b
  unfolding good_router_key
  key_rest h = rw (le-leb 24 (length b) h)

  pub sized_many : 4_096 < length b / 4 → false ≡ leb (length b / 4) 4_096 && eqb (length b % 4) 0
  sized_many k = rw (lt-leb (length b / 4) 4_096 k)

  pub sized_rest : length b / 4 ≤ 4_096 → eqb (length b % 4) 0 ≡ leb (length b / 4) 4_096 && eqb (length b % 4) 0
  sized_rest k = rw (le-leb (length b / 4) 4_096 k)

  module _ (t : Bool) (e : t ≡ leb (length b / 4) 4_096 && eqb (length b % 4) 0) where
    pub providers_unsized : not t ≡ true → false ≡ good_providers b
    unfolding good_providers
    providers_unsized n = rw (← e, not-true t n)

    pub providers_rest : (r : Bool) → not t ≡ false → r ≡ ascending (asns b) → r ≡ good_providers b
    unfolding good_providers
    providers_rest r n q = rw (← e, not-false t n) q

  pub aspa_short : length b < 4 → false ≡ good_aspa b
  unfolding good_aspa
  aspa_short h = rw (lt-leb 4 (length b) h)

  pub aspa_rest : (r : Bool) → 4 ≤ length b → r ≡ good_providers (take (length b - 4) (drop 4 b)) → r ≡ good_aspa b
  unfolding good_aspa
  aspa_rest r h q = rw (le-leb 4 (length b) h, ← to_end b 4) q

  pub update_short : length b < 6 → false ≡ good_update b
  unfolding good_update
  update_short h = rw (lt-leb 6 (length b) h)

  module _ (n : ℕ) (h : 6 ≤ length b) (e : n ≡ two_at b 4) where
    pub update_cut : length b - 6 < n * 4 → false ≡ good_update b
    unfolding good_update
    update_cut l = rw (le-leb 6 (length b) h, ← e, lt-leb (n * 4) (length b - 6) l)

    module _ (l : n * 4 ≤ length b - 6) (r : Bool) (q : r ≡ good_providers (take (6 + n * 4 - 6) (drop 6 b))) where
      former : r ≡ good_providers (take (n * 4) (drop 6 b))
      former = let d : 6 + n * 4 - 6 ≡ n * 4 = omega arith in rw d at q

      pub update_former : not r ≡ true → false ≡ good_update b
      unfolding good_update
      update_former t = rw (le-leb 6 (length b) h, ← e, le-leb (n * 4) (length b - 6) l, ← former, not-true r t)

      pub update_rest : not r ≡ false → (v : Bool) → v ≡ good_providers (take (length b - (6 + n * 4)) (drop (6 + n * 4) b))
          → v ≡ good_update b
      unfolding good_update
      update_rest t v w =
          rw (le-leb 6 (length b) h, ← e, le-leb (n * 4) (length b - 6) l, ← former, not-false r t, ← to_end b (6 + n * 4)) w

pub ruleset bodies = (key_short, key_rest, sized_many, sized_rest, providers_unsized, providers_rest, aspa_short, aspa_rest, update_short, update_cut, update_former, update_rest)

-- ---- bodies that make sense too

-- the customer's number is that of the body's first four bytes
customer : (b : List ℕ) → four_at (take 4 b) 0 ≡ four_at b 0
customer [] = refl
customer (p ∷ []) = refl
customer (p ∷ q ∷ []) = refl
customer (p ∷ q ∷ r ∷ []) = refl
customer (p ∷ q ∷ r ∷ s ∷ b) = refl

-- both lists by both rules, each list by itself
each : (a b c d : Bool) → (a && c) && (b && d) ≡ (a && b) && (c && d)
each true true c d = refl
each true false true d = refl
each true false false d = refl
each false b c d = refl

module _ (b : List ℕ) (c : Asn) (t : Bool) (e : t ≡ leb (length b / 4) 4_096 && eqb (length b % 4) 0) where
  pub sound_unsized : not t ≡ true → false ≡ good_providers b && sensible_asns c.0 (asns b)
  unfolding good_providers
  sound_unsized n = rw (← e, not-true t n)

  module _ (n : not t ≡ false) where
    pub sound_whole : length b % 4 ≡ 0
    sound_whole = eqb-true (length b % 4) 0 (both (leb (length b / 4) 4_096) _ (sym e ∙ not-false t n)).1

    pub sound_four : (length b ≡ 0 → ⊥) → 4 ≤ length b
    sound_four z = let w = sound_whole in omega arith

    pub sound_rest : (l : ℕ) → Leaves l (sound_asns c.0 (asns b))
        → eqb l 0 ≡ good_providers b && sensible_asns c.0 (asns b)
    unfolding good_providers sound_asns
    sound_rest l q = rw (← e, not-false t n) (go l q)
      where
        go : (k : ℕ) → Leaves k (sound_asns c.0 (asns b)) → eqb k 0 ≡ sound_asns c.0 (asns b)
        go zero p = eq-eqb 0 0 refl ∙ p.none refl
        go (suc k) p = let z : suc k ≡ 0 → ⊥ = λ y. omega arith in ne_eqb (suc k) 0 z ∙ p.some z

pub sound_empty : (b : List ℕ) (c : Asn) → length b ≡ 0 → false ≡ good_providers b && sensible_asns c.0 (asns b)
sound_empty b c e = senseless_none b c.0 (good_providers b) (omega arith)

module _ (b : List ℕ) where
  pub sound_short : length b < 4 → false ≡ good_aspa b && sensible_aspa b
  unfolding good_aspa
  sound_short h = rw (lt-leb 4 (length b) h)

  pub sound_aspa : (r : Bool) (c : Asn) → 4 ≤ length b → c ≡ asn_at b 0
      → r ≡ good_providers (take (length b - 4) (drop 4 b)) && sensible_asns c.0 (asns (take (length b - 4) (drop 4 b)))
      → r ≡ good_aspa b && sensible_aspa b
  unfolding good_aspa sensible_aspa sensible_providers
  sound_aspa r c h e q = rw (le-leb 4 (length b) h, customer b) (rw (e, to_end b 4) at q)

  pub sound_brief : length b < 6 → false ≡ good_update b && sensible_update b
  unfolding good_update
  sound_brief h = rw (lt-leb 6 (length b) h)

  module _ (n : ℕ) (h : 6 ≤ length b) (e : n ≡ two_at b 4) where
    pub sound_cut : length b - 6 < n * 4 → false ≡ good_update b && sensible_update b
    unfolding good_update
    sound_cut l = rw (le-leb 6 (length b) h, ← e, lt-leb (n * 4) (length b - 6) l)

    module _ (l : n * 4 ≤ length b - 6) (c : Asn) (d : c ≡ asn_at b 0) (r : Bool)
        (q : r ≡ good_providers (take (6 + n * 4 - 6) (drop 6 b)) && sensible_asns c.0 (asns (take (6 + n * 4 - 6) (drop 6 b)))) where
      first : r ≡ good_providers (take (n * 4) (drop 6 b)) && sensible_asns (four_at b 0) (asns (take (n * 4) (drop 6 b)))
      first = let f : 6 + n * 4 - 6 ≡ n * 4 = omega arith in rw (d, f) at q

      lists : good_update b && sensible_update b
          ≡ r && (good_providers (drop (6 + n * 4) b) && sensible_asns (four_at b 0) (asns (drop (6 + n * 4) b)))
      unfolding good_update sensible_update sensible_providers
      lists = rw (le-leb 6 (length b) h, ← e, le-leb (n * 4) (length b - 6) l, customer b, first, each)

      pub sound_former : not r ≡ true → false ≡ good_update b && sensible_update b
      sound_former t = rw (lists, not-true r t)

      pub sound_update : not r ≡ false → (v : Bool)
          → v ≡ good_providers (take (length b - (6 + n * 4)) (drop (6 + n * 4) b)) && sensible_asns c.0 (asns (take (length b - (6 + n * 4)) (drop (6 + n * 4) b)))
          → v ≡ good_update b && sensible_update b
      sound_update t v w = rw (lists, not-false r t) (rw (d, to_end b (6 + n * 4)) at w)

pub ruleset sound_bodies = (sound_unsized, sound_empty, sound_four, sound_whole, sound_rest, sound_short, sound_aspa, sound_brief, sound_cut, sound_former, sound_update)
