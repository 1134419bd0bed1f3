-- Laws of the check that a history is well formed.
use Prim.Native.Nat.{ℕ, suc, ◌+◌, ◌-◌, ◌≤◌, ◌<◌}
use mathlib.Core.Path.{◌≡◌, refl, sym, ap, ◌∙◌}
use mathlib.Core.List.{List, [], ◌∷◌}
use mathlib.Core.Bool.{Bool, true, false, not, ◌&&◌}
use native.Mathlib.Omega.{arith}
use lib.Dec.{leb}
use lib.ListN.{length, get_or, take, drop, length-drop}
use lib.Seq.{drop-cons, drop-drop}
use borrow.Author.Tests.{not-true, not-false, leb-true, leb-false, le-leb, lt-leb}
use Rattle.order.proofs.Never.{never}
use Rattle.body.specs.declared.tag.Form.TheVariants.{Snapshot, Delta}
use Rattle.payload.specs.Content.{Bytes}
use Rattle.payload.specs.Limit.{limit}
use Rattle.past.specs.declared.state.History.{History}
use Rattle.past.specs.Store.{total, cuts, held_lengths, held_deltas, held_snapshot}
use Rattle.past.specs.WellFormed.{is_good, every, in_range, good_serial, good_start, well_formed}
use Rattle.history.specs.Check.{good_state, good_snapshot, good_runs, good_deltas}

-- ---- the state

module _ (h : History) (t : Bool) (e : t ≡ in_range h) where
  pub state_range : not t ≡ true → false ≡ good_state h
  unfolding good_state
  state_range q = rw (← e, not-true t q)

  module _ (q : not t ≡ false) (u : Bool) (d : u ≡ good_serial h) where
    pub state_serial : not u ≡ true → false ≡ good_state h
    unfolding good_state
    state_serial p = rw (← e, ← d, not-false t q, not-true u p)

    pub state_start : (r : Bool) → not u ≡ false → r ≡ good_start h → r ≡ good_state h
    unfolding good_state
    state_start r p s = rw (← e, ← d, not-false t q, not-false u p) s

pub ruleset stating = (state_range, state_serial, state_start)

-- ---- the stores

module _ (n : ℕ) (s : Bytes) (t : Bool) (e : t ≡ leb (length s) (limit Snapshot)) where
  pub snapshot_long : not t ≡ true → false ≡ good_snapshot n s
  unfolding good_snapshot
  snapshot_long q = rw (← e, not-true t q)

  pub snapshot_past : not t ≡ false → length s < n → false ≡ good_snapshot n s
  unfolding good_snapshot
  snapshot_past q h = rw (← e, not-false t q, lt-leb n (length s) h)

  pub snapshot_judged : (r : Bool) → not t ≡ false → n ≤ length s → r ≡ is_good Snapshot (take (n - 0) (drop 0 s)) → r ≡ good_snapshot n s
  unfolding good_snapshot
  snapshot_judged r q h d = let z : n - 0 ≡ n = omega arith in rw (← e, not-false t q, le-leb n (length s) h) (rw z at d)

pub ruleset snapshots = (snapshot_long, snapshot_past, snapshot_judged)

-- one more
and-false : (t : Bool) → (t && false) ≡ false
and-false true = refl
and-false false = refl

runs_none : (s : Bytes) → good_runs [] s ≡ true
unfolding good_runs
runs_none s = rw (le-leb 0 (length s) (omega arith))

module _ (l : ℕ) (ls : List ℕ) (s : Bytes) where
  runs_past : length s < l → good_runs (l ∷ ls) s ≡ false
  unfolding good_runs
  runs_past h = rw (lt-leb (l + total ls) (length s) (omega arith))

  runs_bad : is_good Delta (take l s) ≡ false → good_runs (l ∷ ls) s ≡ false
  unfolding good_runs
  runs_bad e = rw e (and-false (leb (l + total ls) (length s)))

  runs_next : l ≤ length s → is_good Delta (take l s) ≡ true → good_runs (l ∷ ls) s ≡ good_runs ls (drop l s)
  unfolding good_runs
  runs_next h e = rw e (ap (λ (t : Bool). t && every (is_good Delta) (cuts ls (drop l s))) (go (leb (total ls) (length (drop l s))) refl))
    where
      go : (t : Bool) → leb (total ls) (length (drop l s)) ≡ t → leb (l + total ls) (length s) ≡ t
      go true q = let p = leb-true (total ls) (length (drop l s)) q in le-leb (l + total ls) (length s) (omega (arith, length-drop l s))
      go false q = let p = leb-false (total ls) (length (drop l s)) q in lt-leb (l + total ls) (length s) (omega (arith, length-drop l s))

-- what is left to be checked is good exactly if all is
pub record Checks (lens : List ℕ) (n : ℕ) (s : Bytes) (from k : ℕ) : Type 0 where
  pub full : length lens ≡ 64
  pub few : n ≤ 64
  pub passed : k ≤ n
  pub within : from ≤ length s
  pub left : good_runs (take (n - k) (drop k lens)) (drop from s) ≡ good_runs (take n lens) s

pub checks_start : (lens : List ℕ) (n : ℕ) (s : Bytes) → length lens ≡ 64 → n ≤ 64 → Checks lens n s 0 0
checks_start lens n s f h = record { full = f; few = h; passed = omega arith; within = omega arith; left = let z : n - 0 ≡ n = omega arith in rw z }

module _ (lens : List ℕ) (n : ℕ) (s : Bytes) (from k : ℕ) (c : Checks lens n s from k) where
  pub checks_end : n ≤ k → true ≡ good_runs (take n lens) s
  checks_end h = let d : n - k ≡ 0 = omega arith in sym (runs_none (drop from s)) ∙ (rw d at c.left)

  module _ (h : k < n) (len : ℕ) (e : len ≡ get_or lens k 0) where
    turn : take (n - k) (drop k lens) ≡ len ∷ take (n - (k + 1)) (drop (k + 1) lens)
    turn =
        let d : n - k ≡ suc (n - (k + 1)) = omega arith in
        let f : k + 1 ≡ suc k = omega arith in
        let g : k < length lens = omega (arith, c.full, c.few) in
        rw (d, f, drop-cons lens k 0 g, e)

    pub checks_past : length s - from < len → false ≡ good_runs (take n lens) s
    checks_past p = sym (runs_past len _ (drop from s) (rw (length-drop from s) p)) ∙ (rw turn at c.left)

    module _ (p : len ≤ length s - from) (g : Bool) (q : g ≡ is_good Delta (take (from + len - from) (drop from s))) where
      part : is_good Delta (take len (drop from s)) ≡ g
      part = let z : from + len - from ≡ len = omega arith in sym (rw z at q)

      pub checks_bad : not g ≡ true → false ≡ good_runs (take n lens) s
      checks_bad b = sym (runs_bad len _ (drop from s) (part ∙ not-true g b)) ∙ (rw turn at c.left)

      pub checks_again : not g ≡ false → Checks lens n s (from + len) (k + 1)
      checks_again b = record {
        full = c.full;
        few = c.few;
        passed = omega arith;
        within = omega (arith, c.within);
        left =
            ap (good_runs (take (n - (k + 1)) (drop (k + 1) lens))) (sym (drop-drop len from s))
            ∙ sym (runs_next len (take (n - (k + 1)) (drop (k + 1) lens)) (drop from s) (rw (length-drop from s) p) (part ∙ not-false g b))
            ∙ (rw turn at c.left);
      }

pub ruleset checking = (checks_start, checks_end, checks_past, checks_bad, checks_again)

module _ (lens : List ℕ) (s : Bytes) (t : Bool) (e : t ≡ leb (length s) (limit Delta)) where
  pub deltas_long : not t ≡ true → false ≡ good_deltas lens s
  unfolding good_deltas
  deltas_long q = rw (← e, not-true t q)

  pub deltas_runs : (r : Bool) → not t ≡ false → r ≡ good_runs lens s → r ≡ good_deltas lens s
  unfolding good_deltas
  deltas_runs r q d = rw (← e, not-false t q) d

pub ruleset storing = (deltas_long, deltas_runs)

-- ---- all of it

parts : (a b c d e f g : Bool) → (a && (b && c && d && e) && (f && g)) ≡ (a && (b && (d && f)) && (c && (e && g)))
parts false b c d e f g = refl
parts true false c d e f g = refl
parts true true false true e true g = refl
parts true true false true e false g = refl
parts true true false false e f g = refl
parts true true true false e f g = refl
parts true true true true false true g = refl
parts true true true true false false g = refl
parts true true true true true f g = refl

pub formed_parts : (h : History) (s d : Bytes) → well_formed h s d ≡ (good_state h && good_snapshot h.snapshot s && good_deltas (held_lengths h) d)
unfolding well_formed good_state good_snapshot good_deltas good_runs
formed_parts h s d =
    parts (in_range h && good_serial h && good_start h) (leb (length s) (limit Snapshot)) (leb (length d) (limit Delta))
    (leb h.snapshot (length s)) (leb (total (held_lengths h)) (length d))
    (is_good Snapshot (held_snapshot h s)) (every (is_good Delta) (held_deltas h d))

state_few : (h : History) → good_state h ≡ true → h.n ≤ 64
unfolding good_state
state_few h = go (leb 1 h.keep) (leb h.keep 64) refl (leb h.n h.keep) refl
  where
    go : (a b : Bool) → leb h.keep 64 ≡ b → (c : Bool) → leb h.n h.keep ≡ c → (a && b && c && good_serial h && good_start h) ≡ true → h.n ≤ 64
    go true true p true q e = omega (arith, leb-true h.keep 64 p, leb-true h.n h.keep q)
    go false b p c q e = never cc
    go true false p c q e = never cc
    go true true p false q e = never cc

module _ (h : History) (s d : Bytes) (t : Bool) (e : t ≡ good_state h) where
  pub formed_state : not t ≡ true → false ≡ well_formed h s d
  formed_state q = sym (formed_parts h s d ∙ rw (← e, not-true t q))

  module _ (q : not t ≡ false) (k : ℕ) (l : k ≡ h.snapshot) (u : Bool) (f : u ≡ good_snapshot k s) where
    pub formed_snapshot : not u ≡ true → false ≡ well_formed h s d
    formed_snapshot p = sym (formed_parts h s d ∙ rw (← e, ← l, ← f, not-false t q, not-true u p))

    pub formed_deltas : (n : ℕ) (r : Bool) → not u ≡ false → n ≡ h.n → r ≡ good_deltas (take n h.deltas) d → r ≡ well_formed h s d
    formed_deltas n r p m g = (g ∙ ap (λ (x : ℕ). good_deltas (take x h.deltas) d) m) ∙ sym (formed_parts h s d ∙ rw (← e, ← l, ← f, not-false t q, not-false u p))

pub formed_few : (h : History) (t : Bool) (n : ℕ) → t ≡ good_state h → not t ≡ false → n ≡ h.n → n ≤ 64
formed_few h t n e q m = let f = state_few h (sym e ∙ not-false t q) in omega arith

pub ruleset forming = (formed_state, formed_snapshot, formed_deltas, formed_few)
