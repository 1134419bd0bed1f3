-- Laws of the least key of all runs: only runs with the lowest front are asked.
use Prim.Native.Nat.{ℕ, zero, suc, ◌+◌, ◌-◌, ◌≤◌, ◌<◌}
use mathlib.Core.Path.{◌≡◌, refl, sym, ap, ◌∙◌}
use mathlib.Core.List.{List, [], ◌∷◌, foldl}
use mathlib.Core.Option.{Option, none, some}
use mathlib.Core.Bool.{Bool, true}
use native.Mathlib.Omega.{arith}
use native.Mathlib.Decide.{dec_le}
use lib.ListN.{get_or}
use Rattle.std.specs.declared.cmp.Ordering.{Ordering}
use Rattle.std.specs.declared.cmp.Ordering.TheVariants.{Less, Equal, Greater}
use Rattle.order.specs.Comparison.{bytes}
use Rattle.order.specs.Map.{Item}
use Rattle.order.specs.Many.{lower, lower_of, least}
use Rattle.change.specs.Change.{Change}
use Rattle.number.specs.Bytes.{AllBytes}
use Rattle.payload.specs.Content.{Bytes}
use Rattle.cursors.specs.declared.least.Lower.{Lower}
use Rattle.cursors.specs.Cursor.{D, run, runs_n, runs, Stands, head_key, key_at, Filled}
use Rattle.item.specs.Front.{front_key, top}
use Rattle.cursors.specs.Front.{front_of, HeadBytes, Fronts, Sits, nowhere, on, Blocks, Finds, line, Looks, Pair, OneOf, left, right, key_of_run, Lowers, Alike, LeastBy, nowhere_left, stands_at}
use Rattle.cursors.proofs.Standing.{runs_cons, runs_nil}
use Rattle.item.proofs.Fronts.{front_less, front_greater}
use Rattle.cursors.proofs.Lows.{all_under, all_sits}
use Rattle.std.specs.Prelude.{None, Some}

-- ---- one run

abbrev pub Above : ℕ → Option Bytes → Type 0
Above low none = Unit {0}
Above low (some k) = AllBytes k × (low < front_key k)

-- a run above the lowest front
pick_above : (low : ℕ) (c : Ordering) (k l : Bytes) → Above low (some k) → Above low (some l) → Above low (some (lower_of c k l))
pick_above low Less k l a b = a
pick_above low Equal k l a b = a
pick_above low Greater k l a b = b

pass_above : (low : ℕ) (o : Option Bytes) (d : D) → Above low o → HeadBytes d → low < front_of d → Above low (lower bytes o d)
pass_above low none [] a h l = tt
pass_above low (some k) [] a h l = a
pass_above low none (x ∷ d) a h l = (h.0, l)
pass_above low (some k) (x ∷ d) a h l = pick_above low (bytes k x.key) k x.key a (h.0, l)

pass_found : (low : ℕ) (k : Bytes) (d : D) → front_key k ≡ low → HeadBytes d → low < front_of d → some k ≡ lower bytes (some k) d
pass_found low k [] e h l = refl
pass_found low k (x ∷ d) e h l =
    let z : bytes k x.key ≡ Less = front_less k x.key h.0 (omega (arith, e, l)) in rw z

-- a run with the lowest front
meet_above : (low : ℕ) (o : Option Bytes) (x : Item Bytes (Change Bytes)) (d : D) → Above low o → front_key x.key ≡ low → some x.key ≡ lower bytes o (x ∷ d)
meet_above low none x d a e = refl
meet_above low (some k) x d a e =
    let z : bytes k x.key ≡ Greater = front_greater k x.key a.0 (omega (arith, a.1, e)) in rw z

-- a run whose front is below the top has an item
pub filled_low : (s : Bytes) (p e v : ℕ) → Stands s p e → Fronts s p e v → v < top → Filled s p e
filled_low s p e v st f l = record { stands = st; some = λ z. let w : v ≡ top = rw z at f.is in omega (arith, w) }

head_front : (d : D) → front_of d < top → front_of d ≡ front_key (head_key d)
head_front [] l = absurd (omega arith)
head_front (x ∷ d) l = refl

-- the front of a run that has an item is that of its first key
pub front_key_at : (s : Bytes) (p e v : ℕ) → Fronts s p e v → v < top → v ≡ front_key (key_at s p e)
front_key_at s p e v f l = f.is ∙ head_front (run s p e) (omega (arith, f.is))

lower_some : (k : Bytes) (d : D) → (d ≡ [] → ⊥) → lower bytes (some k) d ≡ some (lower_of (bytes k (head_key d)) k (head_key d))
lower_some k [] n = absurd (n refl)
lower_some k (x ∷ d) n = refl

meet_first : (low : ℕ) (o : Option Bytes) (d : D) → Above low o → front_of d ≡ low → low < top → lower bytes o d ≡ some (head_key d)
meet_first low o [] a e t = absurd (omega (arith, e))
meet_first low o (x ∷ d) a e t = sym (meet_above low o x d a e)

-- ---- all runs

module _ (s : Bytes) (at ends : List ℕ) (from n : ℕ) (f : List ℕ) (low : ℕ) (w : Looks s at ends from n f low) where
  -- none of the runs has anything left
  all_empty : low ≡ top → (r m : ℕ) → from ≤ r → r + m ≤ n → foldl (lower bytes) none (runs_n s at ends r m) ≡ none
  unfolding runs_n
  all_empty e r zero a b = refl
  all_empty e r (suc m) a b = go (run s (get_or at r 0) (get_or ends r 0)) ((line w.fronted).each r a (omega arith)).is ((line w.fronted).each r a (omega arith)).octets (all_empty e (suc r) m (omega arith) (omega arith))
    where
      go : (d : D) → get_or f r 0 ≡ front_of d → HeadBytes d → foldl (lower bytes) none (runs_n s at ends (suc r) m) ≡ none →
          foldl (lower bytes) (lower bytes none d) (runs_n s at ends (suc r) m) ≡ none
      go [] q h ih = ih
      go (x ∷ d) q h ih = absurd (omega (arith, h.1, q, e, all_under f low (line w.fronted).blocks w.lowest r (omega (arith, w.within.few))))

  pub least_none : low ≡ top → LeastBy s at ends from n f low None
  least_none e = nowhere_left refl (go (dec_le from n))
    where
      go : Dec (from ≤ n) → least bytes (runs s at ends from n) ≡ none
      go (yes h) = all_empty e from (n - from) (omega arith) (omega arith)
      go (no h) = rw (runs_nil s at ends from n (omega arith))

  pub least_blocks : Blocks f
  least_blocks = (line w.fronted).blocks

  pub least_few : n ≤ 64
  least_few = w.within.few

  -- a run with another front is above
  over : (j : ℕ) → from ≤ j → j < n → (get_or f j 0 ≡ low → ⊥) → low < front_of (run s (get_or at j 0) (get_or ends j 0))
  over j a b q =
      let u = all_under f low (line w.fronted).blocks w.lowest j (omega (arith, w.within.few)) in
      let i = ((line w.fronted).each j a b).is in
      omega (arith, u, i, q)

  octets : (j : ℕ) → from ≤ j → j < n → HeadBytes (run s (get_or at j 0) (get_or ends j 0))
  octets j a b = ((line w.fronted).each j a b).octets

  -- runs before the first with the lowest front
  pub record Before (r : ℕ) : Type 0 where
    pub so_far : Option Bytes
    pub above : Above low so_far
    pub left : foldl (lower bytes) so_far (runs_n s at ends r (n - r)) ≡ least bytes (runs s at ends from n)

  before : (m r : ℕ) → r ≡ from + m → r ≤ n → ((j : ℕ) → from ≤ j → j < r → j < n → get_or f j 0 ≡ low → ⊥) → Before r
  before zero r e h q = let z : r ≡ from = omega arith in record { so_far = none; above = tt; left = rw z }
  before (suc m) r e h q =
      let z : from + m + 1 ≡ r = omega arith in
      rw z at (step (from + m) (omega arith) (omega arith) (q (from + m) (omega arith) (omega arith) (omega arith))
      (before m (from + m) refl (omega arith) (λ j a b c. q j a (omega arith) c)))
    where
      step : (r : ℕ) → from ≤ r → r < n → (get_or f r 0 ≡ low → ⊥) → Before r → Before (r + 1)
      step r a c d b = record {
        so_far = lower bytes b.so_far (run s (get_or at r 0) (get_or ends r 0));
        above = pass_above low b.so_far (run s (get_or at r 0) (get_or ends r 0)) b.above (octets r a c) (over r a c d);
        left = rw (runs_cons s at ends r n c) at b.left;
      }

  -- runs above a key with the lowest front
  passes : (k : Bytes) → front_key k ≡ low → (m r t : ℕ) → t ≡ r + m → from ≤ r → t ≤ n → ((j : ℕ) → r ≤ j → j < t → j < n → get_or f j 0 ≡ low → ⊥) →
      foldl (lower bytes) (some k) (runs_n s at ends r (n - r)) ≡ foldl (lower bytes) (some k) (runs_n s at ends t (n - t))
  passes k e zero r t z a h q = let y : t ≡ r = omega arith in rw y
  passes k e (suc m) r t z a h q =
      let p = pass_found low k (run s (get_or at r 0) (get_or ends r 0)) e (octets r a (omega arith)) (over r a (omega arith) (q r (omega arith) (omega arith) (omega arith))) in
      rw (runs_cons s at ends r n (omega arith))
      (ap (λ (o : Option Bytes). foldl (lower bytes) o (runs_n s at ends (r + 1) (n - (r + 1)))) (sym p) ∙ passes k e m (r + 1) t (omega arith) (omega arith) h (λ j b c d. q j (omega arith) c d))

pub record Leasting (s : Bytes) (at ends : List ℕ) (from n : ℕ) (f : List ℕ) (low first best last : ℕ) (same : Bool) : Type 0 where
  pub alike : same ≡ true → Alike s at ends f low first last (get_or at best 0) (get_or ends best 0)
  pub looks : Looks s at ends from n f low
  pub few : n ≤ 64
  pub some_left : low < top
  pub ahead : from ≤ first
  pub ordered : first ≤ last
  pub inside : last < n
  pub best_in : (from ≤ best) × (best < n)
  pub best_low : get_or f best 0 ≡ low
  pub nearest : (j : ℕ) → from ≤ j → j ≤ last → j < n → get_or f j 0 ≡ low → first ≤ j
  pub left : foldl (lower bytes) (some (key_of_run s at ends best)) (runs_n s at ends (last + 1) (n - (last + 1))) ≡ least bytes (runs s at ends from n)

pub least_start : (s : Bytes) (at ends : List ℕ) (from n : ℕ) (f : List ℕ) (low : ℕ) → Looks s at ends from n f low → low < 18446744073709551616 → (low ≡ top → ⊥) →
    (p : ℕ) → Finds f low from n p → Leasting s at ends from n f low p p p true
least_start s at ends from n f low w b e p t = go (all_sits f low (line w.fronted).blocks w.lowest e)
  where
    build : p < n → Leasting s at ends from n f low p p p true
    build h =
        let z : from + (p - from) ≡ p = omega (arith, t.ahead) in
        let c = before s at ends from n f low w (p - from) p (sym z) (omega arith) (λ j x y u. t.other j x y u) in
        let v : low < top = omega (arith, b, e) in
        let y : front_of (run s (get_or at p 0) (get_or ends p 0)) ≡ low = sym ((line w.fronted).each p t.ahead h).is ∙ t.found h in
        record {
          alike = λ z j x y q. let d : j ≡ p = omega arith in rw d;
          looks = w;
          few = w.within.few;
          some_left = v;
          ahead = t.ahead;
          ordered = omega arith;
          inside = h;
          best_in = (t.ahead, h);
          best_low = t.found h;
          nearest = λ j x y u q. elim (dec_le p j) [ yes d ↦ d | no d ↦ absurd (t.other j x (omega arith) u q) ];
          left = rw (← meet_first low c.so_far (run s (get_or at p 0) (get_or ends p 0)) c.above y v) (rw (runs_cons s at ends p n h) at c.left);
        }

    inside : (j : ℕ) → j < 64 → get_or f j 0 ≡ low → Dec (from ≤ j) → Dec (n ≤ j) → Dec (p ≤ j) → Leasting s at ends from n f low p p p true
    inside j y q (no a) c d = absurd (e (sym q ∙ (line w.fronted).before j (omega arith) y))
    inside j y q (yes a) (yes c) d = absurd (e (sym q ∙ (line w.fronted).behind j c y))
    inside j y q (yes a) (no c) (yes d) = build (omega arith)
    inside j y q (yes a) (no c) (no d) = absurd (t.other j a (omega arith) (omega arith) q)

    go : Sits f 0 64 low → Leasting s at ends from n f low p p p true
    go (nowhere q) = absurd (e q)
    go (on j x y q) = inside j y q (dec_le from j) (dec_le n j) (dec_le p j)

module _ (s : Bytes) (at ends : List ℕ) (from n : ℕ) (f : List ℕ) (low first best last : ℕ) (same : Bool) (i : Leasting s at ends from n f low first best last same) where
  pub least_find : Blocks f
  least_find = (line i.looks.fronted).blocks

  front_at_lem : (j : ℕ) → from ≤ j → j < n → Fronts s (get_or at j 0) (get_or ends j 0) (get_or f j 0)
  front_at_lem j a b = (line i.looks.fronted).each j a b

  filled : (j : ℕ) → from ≤ j → j < n → get_or f j 0 ≡ low → Filled s (get_or at j 0) (get_or ends j 0)
  filled j a b q = filled_low s (get_or at j 0) (get_or ends j 0) (get_or f j 0) (i.looks.within.each j b) (front_at_lem j a b) (omega (arith, q, i.some_left))

  best_front : low ≡ front_key (key_of_run s at ends best)
  best_front = sym i.best_low ∙ front_key_at s (get_or at best 0) (get_or ends best 0) (get_or f best 0) (front_at_lem best i.best_in.0 i.best_in.1) (omega (arith, i.best_low, i.some_left))

  module _ (p : ℕ) (t : Finds f low (last + 1) n p) where
    pub least_pair : p < n → Pair s at ends best p
    least_pair h = record {
      long = i.looks.within.long;
      long_ends = i.looks.within.long_ends;
      small = (omega (arith, i.best_in.1, i.few), omega (arith, i.few));
      earlier = filled best i.best_in.0 i.best_in.1 i.best_low;
      later = filled p (omega (arith, t.ahead, i.ahead, i.ordered)) h (t.found h);
    }

    -- what is left from a place on, up to which no run has the lowest front
    reach : (q : ℕ) → last + 1 ≤ q → q ≤ n → q ≤ p →
        foldl (lower bytes) (some (key_of_run s at ends best)) (runs_n s at ends q (n - q)) ≡ least bytes (runs s at ends from n)
    reach q a b c =
        let z : last + 1 + (q - (last + 1)) ≡ q = omega arith in
        sym (passes s at ends from n f low i.looks (key_of_run s at ends best) (sym best_front) (q - (last + 1)) (last + 1) q (sym z) (omega (arith, i.ahead, i.ordered)) b
        (λ j x y u. t.other j x (omega arith) u)) ∙ i.left

    pub least_again : p < n → (r : Lower) → Lowers s at ends best p same r → Leasting s at ends from n f low first r.run p r.same
    least_again h r l = record {
      alike = λ z j x y q. alike z j x y q (dec_le j last) (dec_le p j);
      looks = i.looks;
      few = i.few;
      some_left = i.some_left;
      ahead = i.ahead;
      ordered = omega (arith, i.ordered, t.ahead);
      inside = h;
      best_in = one_in l.one;
      best_low = one_low l.one;
      nearest = λ j x y u q. elim (dec_le j last) [ yes d ↦ i.nearest j x d u q | no d ↦ omega (arith, i.ordered) ];
      left =
          sym (ap (λ (o : Option Bytes). foldl (lower bytes) o (runs_n s at ends (p + 1) (n - (p + 1))))
          (lower_some (key_of_run s at ends best) (run s (get_or at p 0) (get_or ends p 0)) pair.later.some ∙ ap some (sym l.key)))
          ∙ (rw (runs_cons s at ends p n h) at (reach p t.ahead (omega arith) (omega arith)));
    }
      where
        pair : Pair s at ends best p
        pair = least_pair h

        alike : r.same ≡ true → (j : ℕ) → first ≤ j → j ≤ p → get_or f j 0 ≡ low → Dec (j ≤ last) → Dec (p ≤ j) →
            key_of_run s at ends j ≡ key_at s (get_or at r.run 0) (get_or ends r.run 0)
        alike z j x y q (yes d) c = rw (l.alike z).1 (i.alike (l.before z) j x d q)
        alike z j x y q (no d) (yes c) = let e : j ≡ p = omega arith in rw (e, (l.alike z).1) (sym (l.alike z).0)
        alike z j x y q (no d) (no c) = absurd (t.other j (omega arith) (omega arith) (omega arith) q)

        one_in : OneOf best p r.run → (from ≤ r.run) × (r.run < n)
        one_in (left e) = rw e i.best_in
        one_in (right e) = rw e (omega (arith, t.ahead, i.ahead, i.ordered), h)

        one_low : OneOf best p r.run → get_or f r.run 0 ≡ low
        one_low (left e) = rw e i.best_low
        one_low (right e) = rw e (t.found h)

    pub least_done : n ≤ p → LeastBy s at ends from n f low (Some (record { at = get_or at best 0; end = get_or ends best 0; first = first; last = last; same = same }))
    least_done h = stands_at (record { at = get_or at best 0; end = get_or ends best 0; first = first; last = last; same = same }) refl (record {
      alike = i.alike;
      filled = filled best i.best_in.0 i.best_in.1 i.best_low;
      key = sym (rw (runs_nil s at ends n n (omega arith)) at (reach n (omega (arith, i.inside)) (omega arith) h));
      front = best_front;
      some_left = i.some_left;
      tied = record {
        ahead = i.ahead;
        ordered = i.ordered;
        inside = i.inside;
        others = λ j x y q. elim (dec_le j last) [ yes d ↦ (i.nearest j x d y q, d) | no d ↦ absurd (t.other j (omega arith) (omega arith) y q) ];
      };
    })

  pub least_best : best < 64
  least_best = omega (arith, i.best_in.1, i.few)

pub ruleset leasting = (least_none, least_blocks, least_few, least_start, least_find, least_best, least_pair, least_again, least_done)
