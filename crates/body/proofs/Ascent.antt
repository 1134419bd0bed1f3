-- A list of providers as the loop over it sees it.
use Prim.Native.Nat.{ℕ, suc, ◌+◌, ◌-◌, ◌*◌, ◌/◌, ◌%◌, ◌^◌, ◌<◌, ◌≤◌}
use mathlib.Core.Path.{◌≡◌, refl, sym}
use mathlib.Core.List.{List, [], ◌∷◌}
use mathlib.Core.Bool.{Bool, true, false, not, ◌&&◌, and-false}
use native.Mathlib.Numerals.{add-one, add-two, add-three, add-four}
use native.Mathlib.Omega.{arith}
use borrow.Author.Tests.{lt-ltb, le-ltb, eq-eqb, ne_eqb}
use lib.Dec.{ltb}
use lib.ListN.{length, drop, length-drop}
use lib.Seq.{drop-cons}
use Rattle.serial.specs.declared.Asn.{Asn}
use Rattle.number.specs.Number.{four_at, asn_at}
use Rattle.body.specs.Aspa.{asns, ascending_from, ascending, is_in, sensible_asns}
use Rattle.body.specs.Sound.{sound_asns}
use Rattle.body.specs.Leaves.{Leaves}

short : (l : List ℕ) → length l < 4 → asns l ≡ []
unfolding asns
short [] h = refl
short (a ∷ []) h = refl
short (a ∷ b ∷ []) h = refl
short (a ∷ b ∷ c ∷ []) h = refl
short (a ∷ b ∷ c ∷ d ∷ l) h = absurd (omega arith)

pub asns_at : (s : List ℕ) (i : ℕ) → i + 4 ≤ length s → asns (drop i s) ≡ four_at s i ∷ asns (drop (i + 4) s)
unfolding asns
asns_at s i h =
    let h0 : i < length s = omega arith in
    let h1 : suc i < length s = omega arith in
    let h2 : suc (suc i) < length s = omega arith in
    let h3 : suc (suc (suc i)) < length s = omega arith in
    rw (add-one, add-two, add-three, add-four, drop-cons s i 0 h0, drop-cons s (suc i) 0 h1, drop-cons s (suc (suc i)) 0 h2, drop-cons s (suc (suc (suc i))) 0 h3)

-- what ascending_asns has found at i, behind the number `before`: the rest decides
pub record Ascended (s : List ℕ) (before : Asn) (i : ℕ) : Type 0 where
  pub within : i ≤ length s
  pub rest : ascending_from before.0 (asns (drop i s)) ≡ ascending (asns s)

pub ascended_none : (s : List ℕ) → length s < 4 → true ≡ ascending (asns s)
unfolding ascending
ascended_none s h = rw (short s h)

pub ascended_start : (s : List ℕ) (x : Asn) → 4 ≤ length s → x ≡ asn_at s 0 → Ascended s x (4 * 1)
unfolding ascending
ascended_start s x h e = record { within = h; rest = rw (e, asns_at s 0 h) }

module _ (s : List ℕ) (before : Asn) (k : ℕ) (l : Ascended s before (4 * k)) where
  pub ascended_end : length s / 4 ≤ k → true ≡ ascending (asns s)
  unfolding ascending_from
  ascended_end h = let e = short (drop (4 * k) s) (simp length-drop (omega arith)) in rw (← l.rest, e)

  module _ (h : k < length s / 4) where
    pub ascended_room : 4 * k + 4 ≤ length s
    ascended_room = omega arith

    pub ascended_small : length s < 2 ^ 64 → 4 * k < 2 ^ 64
    ascended_small w = omega arith

    module _ (x : Asn) (e : x ≡ asn_at s (4 * k)) where
      step : ascending (asns s) ≡ ltb before.0 x.0 && ascending_from x.0 (asns (drop (4 * k + 4) s))
      unfolding ascending_from
      step = rw (← l.rest, asns_at s (4 * k) ascended_room, e)

      pub ascended_not : x.0 ≤ before.0 → false ≡ ascending (asns s)
      ascended_not d = rw (step, le-ltb before.0 x.0 d)

      pub ascended_more : before.0 < x.0 → Ascended s x (4 * (k + 1))
      ascended_more d =
          let n : 4 * (k + 1) ≡ 4 * k + 4 = omega arith in
          rw n (record { within = ascended_room; rest = sym (rw (lt-ltb before.0 x.0 d) at step) })

pub ruleset ascent = (ascended_none, ascended_start, ascended_end, ascended_room, ascended_small, ascended_not, ascended_more)

-- ---- unsound_asns

-- what it has found where so many bytes are left, behind the number `before`: these decide
pub record Sounded (s : List ℕ) (c before : Asn) (left : ℕ) : Type 0 where
  pub within : left ≤ length s
  pub whole : left % 4 ≡ 0
  pub rest : ascending_from before.0 (asns (drop (length s - left) s)) && not (is_in c.0 (asns (drop (length s - left) s))) ≡ sound_asns c.0 (asns s)

-- none of no bytes makes sense
pub senseless_none : (s : List ℕ) (c : ℕ) (x : Bool) → length s < 4 → false ≡ x && sensible_asns c (asns s)
unfolding sensible_asns
senseless_none s c x h = rw (short s h) (sym (and-false x))

-- something is left where the list is not sound
left_some : (n : ℕ) (t : Bool) → 0 < n → false ≡ t → Leaves n t
left_some n t h e = record { none = λ z. absurd (omega arith); some = λ z. e }

module _ (s : List ℕ) (c : Asn) (h : 4 ≤ length s) where
  pub sounded_room : 0 + 4 ≤ length s
  sounded_room = omega arith

  module _ (x : Asn) (e : x ≡ asn_at s 0) where
    pub sounded_first : x.0 ≡ c.0 → Leaves (length s) (sound_asns c.0 (asns s))
    unfolding sound_asns sensible_asns is_in
    sounded_first d =
        let k : four_at s 0 ≡ c.0 = rw e at d in
        left_some (length s) _ (omega arith)
        (rw (asns_at s 0 h, eq-eqb (four_at s 0) c.0 k) (sym (and-false (ascending (four_at s 0 ∷ asns (drop 4 s))))))

    pub sounded_start : length s % 4 ≡ 0 → (x.0 ≡ c.0 → ⊥) → Sounded s c x (length s - 4)
    unfolding sound_asns ascending sensible_asns is_in
    sounded_start w d =
        let k : four_at s 0 ≡ c.0 → ⊥ = rw e at d in
        let z : length s - (length s - 4) ≡ 4 = omega arith in
        record { within = omega arith; whole = omega arith; rest = rw (z, e, asns_at s 0 h, ne_eqb (four_at s 0) c.0 k) }

module _ (s : List ℕ) (c before : Asn) (left : ℕ) (l : Sounded s c before left) where
  pub sounded_in : left ≤ length s
  sounded_in = l.within

  pub sounded_end : left ≡ 0 → Leaves left (sound_asns c.0 (asns s))
  unfolding ascending_from is_in
  sounded_end h =
      let e = short (drop (length s - left) s) (simp length-drop (omega arith)) in
      record { none = λ z. rw (← l.rest, e); some = λ z. absurd (z h) }

  module _ (h : left ≡ 0 → ⊥) where
    pub sounded_four : 4 ≤ left
    sounded_four = let w = l.whole in omega arith

    pub sounded_next : length s - left + 4 ≤ length s
    sounded_next = let w = l.within in let v = sounded_four in omega arith

    pub sounded_less : left - 4 < left
    sounded_less = let v = sounded_four in omega arith

    module _ (x : Asn) (e : x ≡ asn_at s (length s - left)) where
      pub sounded_low : x.0 ≤ before.0 → Leaves left (sound_asns c.0 (asns s))
      unfolding ascending_from
      sounded_low d =
          let k : four_at s (length s - left) ≤ before.0 = rw e at d in
          left_some left _ (omega (arith, sounded_four))
          (rw (← l.rest, asns_at s (length s - left) sounded_next, le-ltb before.0 (four_at s (length s - left)) k))

      pub sounded_named : x.0 ≡ c.0 → Leaves left (sound_asns c.0 (asns s))
      unfolding is_in
      sounded_named d =
          let k : four_at s (length s - left) ≡ c.0 = rw e at d in
          left_some left _ (omega (arith, sounded_four))
          (rw (← l.rest, asns_at s (length s - left) sounded_next, eq-eqb (four_at s (length s - left)) c.0 k)
          (sym (and-false (ascending_from before.0 (four_at s (length s - left) ∷ asns (drop (length s - left + 4) s))))))

      pub sounded_more : before.0 < x.0 → (x.0 ≡ c.0 → ⊥) → Sounded s c x (left - 4)
      unfolding ascending_from is_in
      sounded_more d n =
          let k : before.0 < four_at s (length s - left) = rw e at d in
          let m : four_at s (length s - left) ≡ c.0 → ⊥ = rw e at n in
          let w = l.whole in
          let u = l.within in
          let v = sounded_four in
          let z : length s - (left - 4) ≡ length s - left + 4 = omega arith in
          record {
            within = omega arith;
            whole = omega arith;
            rest = rw (z, e) (rw (asns_at s (length s - left) sounded_next, lt-ltb before.0 (four_at s (length s - left)) k, ne_eqb (four_at s (length s - left)) c.0 m) at l.rest);
          }

pub ruleset sounding = (sounded_room, sounded_first, sounded_start, sounded_in, sounded_end, sounded_four, sounded_next, sounded_less, sounded_low, sounded_named, sounded_more)
