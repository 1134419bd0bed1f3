-- Laws of the lengths of the held deltas.
use Prim.Native.Nat.{ℕ, zero, suc, ◌+◌, ◌-◌, ◌^◌, ◌≤◌, ◌<◌}
use mathlib.Core.Path.{◌≡◌, refl, sym, ◌∙◌}
use mathlib.Core.List.{List, [], ◌∷◌, ◌++◌}
use mathlib.Core.Bool.{Bool, true, false, cond}
use native.Mathlib.Omega.{arith}
use native.Mathlib.Nat.{zero-add}
use lib.Dec.{eqb}
use lib.ListN.{length, get_or, take, drop, set, replicate, length-set, length-take, length-drop, length-append, length-replicate}
use lib.Seq.{sets, sets-eq, drop-cons}
use borrow.Author.Tests.{eq-eqb, ne_eqb, eqb-true, eqb-false}
use Rattle.item.proofs.Sinking.{sets_append}
use Rattle.serial.specs.declared.Serial.{Serial}
use Rattle.serial.specs.Serial.{next_of}
use Rattle.past.specs.declared.state.History.{History}
use Rattle.past.specs.Store.{total}
use Rattle.merged.specs.Place.{between}
use Rattle.history.specs.Push.{drops_of, kept_of, lengths_with, grown_of, Ranged, Grows}

-- ---- how many are dropped

module _ (h : History) where
  pub drops_one : h.n ≡ h.keep → 1 ≡ drops_of h
  unfolding drops_of
  drops_one e = rw (eq-eqb h.n h.keep e)

  pub drops_none : (h.n ≡ h.keep → ⊥) → 0 ≡ drops_of h
  unfolding drops_of
  drops_none e = rw (ne_eqb h.n h.keep e)

  -- what is dropped is there, and then fewer than 64 are left
  pub drops_few : Ranged h → (drops_of h ≤ 1) × (drops_of h ≤ h.n) × (h.n - drops_of h < 64)
  unfolding drops_of
  drops_few r = go (eqb h.n h.keep) refl
    where
      go : (t : Bool) → eqb h.n h.keep ≡ t → (cond t 1 0 ≤ 1) × (cond t 1 0 ≤ h.n) × (h.n - cond t 1 0 < 64)
      go true e = let f = eqb-true h.n h.keep e in let m = r.least in let k = r.most in (omega arith, omega arith, omega arith)
      go false e = let m = r.most in let k = r.count in let f = eqb-false h.n h.keep e in (omega arith, omega arith, omega arith)

pub ruleset dropping = (drops_one, drops_none)

-- ---- what stays

module _ (h : History) (r : Ranged h) (first : ℕ) (e : first ≡ drops_of h) where
  pub first_few : first ≤ 64
  first_few = let f = drops_few h r in omega arith

  pub first_within : (n : ℕ) → n ≡ h.n → first ≤ n
  first_within n m = let f = drops_few h r in omega arith

  pub first_left : (n : ℕ) → n ≡ h.n → n - first < 64
  first_left n m = let f = drops_few h r in omega arith

  pub first_count : (n : ℕ) → n ≡ h.n → n - first + 1 < 2 ^ 32
  first_count n m = let f = drops_few h r in omega arith

pub count_few : (h : History) (n : ℕ) → Ranged h → n ≡ h.n → n ≤ 64
count_few h n r m = let a = r.count in let b = r.most in omega arith

pub kept_is : (h : History) (first from len n : ℕ) → first ≡ drops_of h → n ≡ h.n → from ≡ total (between h.deltas 0 first) →
    len ≡ total (between h.deltas first n) → record { first = first; from = from; len = len } ≡ kept_of h
unfolding kept_of
kept_is h first from len n e m p q = rw (p, q, e, m)

pub ruleset keeping = (first_few, first_within, count_few, kept_is)

-- ---- lengths

drop_replicate : (m n x : ℕ) → drop m (replicate n x) ≡ replicate (n - m) x
drop_replicate zero n x = let e : n - 0 ≡ n = omega arith in rw e
drop_replicate (suc m) zero x = let e : zero - suc m ≡ 0 = omega arith in rw e
drop_replicate (suc m) (suc n) x = let e : suc n - suc m ≡ n - m = omega arith in rw e (drop_replicate m n x)

-- 64 unused lengths
abbrev unused : List ℕ
unused = replicate 64 0

unused_long : length unused ≡ 64
unused_long = length-replicate {A = ℕ} 64 0

pub record Shifts (lens : List ℕ) (first n count : ℕ) (next : List ℕ) (i : ℕ) : Type 0 where
  pub full : length lens ≡ 64
  pub few : n ≤ 64
  pub within : first ≤ n
  pub counted : count ≡ n - first
  pub small : count < 64
  pub passed : i ≤ count
  pub long : length next ≡ 64
  pub left : sets next i (take (count - i) (drop (first + i) lens)) ≡ sets unused 0 (take count (drop first lens))

pub shifts_start : (lens : List ℕ) (first n : ℕ) → length lens ≡ 64 → first ≤ n → n ≤ 64 → n - first < 64 →
    Shifts lens first n (n - first) unused 0
shifts_start lens first n f w h s =
    let a : first + 0 ≡ first = omega arith in
    let b : n - first - 0 ≡ n - first = omega arith in
    record { full = f; few = h; within = w; counted = refl; small = s; passed = omega arith; long = unused_long; left = rw (a, b) }

module _ (lens : List ℕ) (first n count : ℕ) (next : List ℕ) (i : ℕ) (c : Shifts lens first n count next i) where
  pub shifts_put : count < length next
  shifts_put = omega (arith, c.small, c.long)

  pub shifts_full : length lens ≡ 64
  shifts_full = c.full

  pub shifts_end : (len : ℕ) → count ≤ i → set next count len ≡ lengths_with lens first n len
  unfolding lengths_with
  shifts_end len h =
      let d : count - i ≡ 0 = omega arith in
      let k = c.counted in
      let w = c.within in
      let s = c.small in
      let vs : List ℕ = take count (drop first lens) in
      let l : length vs ≡ count = simp (length-take, length-drop) (omega (arith, c.full, c.few, k, w)) in
      let y : next ≡ sets unused 0 vs = rw d at c.left in
      let m : length (vs ++ (len ∷ [])) ≡ suc count = length-append vs (len ∷ []) ∙ omega arith in
      let z : sets unused 0 (vs ++ (len ∷ [])) ≡ set next count len
      = sets_append vs (len ∷ []) unused 0 ∙ rw (zero-add, l, y) in
      let fit : 0 + length (vs ++ (len ∷ [])) ≤ length unused = omega (arith, m, s, unused_long) in
      let u : n - first ≡ count = sym k in
      rw u (sym z ∙ sets-eq (vs ++ (len ∷ [])) unused 0 fit ∙ rw (zero-add, m, drop_replicate (suc count) 64 0))

  module _ (h : i < count) where
    pub shifts_from : first + i < length lens
    shifts_from = omega (arith, c.full, c.few, c.counted, c.within)

    pub shifts_to : i < length next
    shifts_to = omega (arith, c.small, c.long)

    pub shifts_again : Shifts lens first n count (set next i (get_or lens (first + i) 0)) (i + 1)
    shifts_again =
        let d : count - i ≡ suc (count - (i + 1)) = omega arith in
        let e : first + (i + 1) ≡ suc (first + i) = omega arith in
        let f : i + 1 ≡ suc i = omega arith in
        let z : take (count - i) (drop (first + i) lens) ≡ get_or lens (first + i) 0 ∷ take (count - (i + 1)) (drop (first + (i + 1)) lens)
        = rw (d, e, drop-cons lens (first + i) 0 shifts_from) in
        record {
          full = c.full;
          few = c.few;
          within = c.within;
          counted = c.counted;
          small = c.small;
          passed = omega arith;
          long = length-set next i (get_or lens (first + i) 0) ∙ c.long;
          left = rw f (rw f at (rw z at c.left));
        }

pub ruleset shifting = (shifts_start, shifts_put, shifts_full, shifts_end, shifts_from, shifts_to, shifts_again)

-- ---- the state

grown_path : (h : History) (first snapshot delta len n m k : ℕ) (lens : List ℕ) (s : Serial) → n ≡ h.n → len ≡ delta → k ≡ snapshot →
    lens ≡ lengths_with h.deltas first n len → s ≡ next_of h.newest → m ≡ n - first + 1 →
    record { session = h.session; keep = h.keep; active = true; newest = s; start = h.start; n = m; snapshot = k; deltas = lens } ≡ grown_of h first snapshot delta
unfolding grown_of
grown_path h first snapshot delta len n m k lens s a b d e f g = rw (g, e, f, b, d, a)

pub grown_is : (h : History) (first snapshot delta len n m k : ℕ) (lens : List ℕ) (s : Serial) → n ≡ h.n → len ≡ delta → k ≡ snapshot →
    lens ≡ lengths_with h.deltas first n len → s ≡ next_of h.newest → m ≡ n - first + 1 → length h.deltas ≡ 64 →
    Grows h first snapshot delta (record { session = h.session; keep = h.keep; active = true; newest = s; start = h.start; n = m; snapshot = k; deltas = lens })
grown_is h first snapshot delta len n m k lens s a b d e f g l =
    record { is = grown_path h first snapshot delta len n m k lens s a b d e f g; full = l }

pub ruleset growing = (first_within, first_left, first_count, count_few, grown_is)
