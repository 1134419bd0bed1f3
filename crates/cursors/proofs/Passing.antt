-- Laws of what one run has below all others.
use Prim.Native.Nat.{ℕ, zero, suc, ◌+◌, ◌-◌, ◌≤◌, ◌<◌}
use mathlib.Core.Path.{◌≡◌, refl, sym, ap, ap₂, ◌∙◌}
use mathlib.Core.List.{List, [], ◌∷◌, ◌++◌, foldl}
use native.Mathlib.Omega.{arith}
use native.Mathlib.Decide.{ℕ_discrete}
use lib.ListN.{length, get_or, set, take, length-append, length-set, length-take}
use lib.Seq.{get_or-set_same, get_or-set_other}
use Rattle.order.specs.Comparison.{bytes}
use Rattle.order.specs.Map.{Item, All, Below, Sorted}
use Rattle.order.proofs.Comparison.{strings}
use Rattle.order.proofs.Walk.{walk_sorted, walk_below}
use Rattle.change.specs.Change.{Change}
use Rattle.change.specs.Merge.{merge_at, merge}
use Rattle.field.specs.Cells.{cell_bytes}
use Rattle.payload.specs.Content.{Bytes}
use Rattle.item.specs.Front.{front_key, top}
use Rattle.item.proofs.Fronts.{front_less}
use Rattle.turn.specs.declared.stretch.Stretch.{Stretch}
use Rattle.turn.specs.Stretch.{Stretches}
use Rattle.walk.proofs.Walking.{walk_left_first, walk_right_first}
use Rattle.cursors.specs.Cursor.{D, run, runs_n, runs, items_in, Stands, Walks}
use Rattle.cursors.specs.Front.{front_of, HeadBytes, Fronts, Lowest, Blocks, Finds, Settled, Fronted, lined, line, Advances, Advanced}
use Rattle.cursors.specs.Lone.{Sought, sought, Leads, LoneIs, passes}
use Rattle.cursors.specs.declared.runs.Walk.{Walk}
use Rattle.cursors.specs.declared.lone.Lone.{Lone}
use Rattle.cursors.specs.Walk.{Underway, Kept, Passed}
use Rattle.cursors.proofs.Standing.{part_take}
use Rattle.cursors.proofs.Keeping.{kept_self}
use Rattle.cursors.proofs.Lows.{all_under}

abbrev I : Type 0
I = Item Bytes (Change Bytes)

-- ---- items that stand before all of a list

-- each of them stands below its first
abbrev Before : D → D → Type 0
Before p d = All (λ (x : I). Below bytes x.key d) p

merge_left : (p a b : D) → Before p b → merge bytes bytes (p ++ a) b ≡ p ++ merge bytes bytes a b
merge_left [] a b h = refl
merge_left (x ∷ p) a b h = walk_left_first (merge_at bytes) x (p ++ a) b h.0 ∙ ap (λ (d : D). x ∷ d) (merge_left p a b h.1)

merge_right : (p a b : D) → Before p a → merge bytes bytes a (p ++ b) ≡ p ++ merge bytes bytes a b
merge_right [] a b h = refl
merge_right (x ∷ p) a b h = walk_right_first (merge_at bytes) a x (p ++ b) h.0 ∙ ap (λ (d : D). x ∷ d) (merge_right p a b h.1)

-- they stand before the merge of two if they do before both
before_merge : (p a b : D) → Before p a → Sorted bytes a → Before p b → Sorted bytes b → Before p (merge bytes bytes a b)
before_merge [] a b h s g t = tt
before_merge (x ∷ p) a b h s g t = (walk_below strings (merge_at bytes) x.key a b h.0 s g.0 t, before_merge p a b h.1 s g.1 t)

before_nil : (p : D) → Before p []
before_nil [] = tt
before_nil (x ∷ p) = (tt, before_nil p)

rest_sorted : (p a : D) → Sorted bytes (p ++ a) → Sorted bytes a
rest_sorted [] a s = s
rest_sorted (x ∷ p) a s = rest_sorted p a s.1

-- one list begins with p, which stands before all others; the others stay, and it goes on behind p
data Ahead (p : D) : List D → List D → Type 0 where
  here : {ls : List D} (a : D) → All (Before p) ls → Ahead p ((p ++ a) ∷ ls) (a ∷ ls)
  later : {ls ls' : List D} (a : D) → Before p a → Ahead p ls ls' → Ahead p (a ∷ ls) (a ∷ ls')

merges_left : (p a : D) (ls : List D) → All (Before p) ls → foldl (merge bytes bytes) (p ++ a) ls ≡ p ++ foldl (merge bytes bytes) a ls
merges_left p a [] h = refl
merges_left p a (b ∷ ls) h =
    ap (λ (d : D). foldl (merge bytes bytes) d ls) (merge_left p a b h.0) ∙ merges_left p (merge bytes bytes a b) ls h.1

-- so it goes first in the merge of all
ahead_first : (p : D) {ls ls' : List D} → Ahead p ls ls' → (d : D) → Before p d → Sorted bytes d → All (Sorted bytes) ls →
    foldl (merge bytes bytes) d ls ≡ p ++ foldl (merge bytes bytes) d ls'
ahead_first p (here {ls = ls} a h) d b s u =
    ap (λ (e : D). foldl (merge bytes bytes) e ls) (merge_right p d a b) ∙ merges_left p (merge bytes bytes d a) ls h
ahead_first p (later a h r) d b s u =
    ahead_first p r (merge bytes bytes d a) (before_merge p d a b s h u.0) (walk_sorted strings (merge_at bytes) d a s u.0) u.1

ahead_sorted : (p : D) {ls ls' : List D} → Ahead p ls ls' → All (Sorted bytes) ls → All (Sorted bytes) ls'
ahead_sorted p (here a h) u = (rest_sorted p a u.0, u.1)
ahead_sorted p (later a h r) u = (u.0, ahead_sorted p r u.1)

ahead_fewer : (p : D) {ls ls' : List D} → Ahead p ls ls' → items_in ls ≡ length p + items_in ls'
ahead_fewer p (here a h) = omega (arith, length-append p a)
ahead_fewer p (later a h r) = omega (arith, ahead_fewer p r)

-- ---- the runs

-- items with fronts below a run's stand before it
low_before : (bound : ℕ) (p d : D) → All (λ (x : I). front_key x.key < bound) p → bound ≤ front_of d → HeadBytes d → Before p d
low_before bound [] d h b o = tt
low_before bound (x ∷ p) [] h b o = (tt, low_before bound p [] h.1 b o)
low_before bound (x ∷ p) (y ∷ d) h b o = (front_less x.key y.key o.0 (omega (arith, h.0, b)), low_before bound p (y ∷ d) h.1 b o)

module _ (s : Bytes) (at at' ends : List ℕ) (p : ℕ) (passed : D) where
  -- run p loses its first items; all others stay, and stand behind those
  record Moves (r m : ℕ) : Type 0 where
    pub first : run s (get_or at p 0) (get_or ends p 0) ≡ passed ++ run s (get_or at' p 0) (get_or ends p 0)
    pub others : (j : ℕ) → r ≤ j → j < r + m → (j ≡ p → ⊥) → (get_or at' j 0 ≡ get_or at j 0) × Before passed (run s (get_or at j 0) (get_or ends j 0))

  behind : (r m : ℕ) → p < r → Moves r m → (runs_n s at ends r m ≡ runs_n s at' ends r m) × All (Before passed) (runs_n s at ends r m)
  unfolding runs_n
  behind r zero h k = (refl, tt)
  behind r (suc m) h k =
      let o = k.others r (omega arith) (omega arith) (λ e. omega arith) in
      let i = behind (suc r) m (omega arith) (record { first = k.first; others = λ j x y e. k.others j (omega arith) (omega arith) e }) in
      (ap₂ (λ (d : D) (ds : List D). d ∷ ds) (ap (λ (x : ℕ). run s x (get_or ends r 0)) (sym o.0)) i.0, (o.1, i.1))

  lead : (m : ℕ) → Moves (suc p) m → Ahead passed (runs_n s at ends p (suc m)) (runs_n s at' ends p (suc m))
  unfolding runs_n
  lead m k = let i = behind (suc p) m (omega arith) k in rw (k.first, ← i.0) (here (run s (get_or at' p 0) (get_or ends p 0)) i.1)

  ahead_runs : (r m : ℕ) → r ≤ p → p < r + m → Moves r m → Ahead passed (runs_n s at ends r m) (runs_n s at' ends r m)
  unfolding runs_n
  ahead_runs r zero h g k = absurd (omega arith)
  ahead_runs r (suc m) h g k = elim (ℕ_discrete r p) [
    | yes e ↦ rw e (lead m (record { first = k.first; others = λ j x y d. k.others j (omega arith) (omega arith) d }))
    | no e ↦
        let o = k.others r (omega arith) (omega arith) e in
        rw o.0 (later (run s (get_or at r 0) (get_or ends r 0)) o.1
        (ahead_runs (suc r) m (omega arith) (omega arith) (record { first = k.first; others = λ j x y d. k.others j (omega arith) (omega arith) d })))
  ]

-- ---- pass

module _ (s : Bytes) (at ends : List ℕ) (from n : ℕ) (f : List ℕ) (p : ℕ) (i : Leads s at ends from n f p) where
  pub lead_blocks : Blocks f
  lead_blocks = (line i.fronted).blocks

  pub lead_few : p < 64
  lead_few = omega (arith, i.inside, i.walks.within.few)

  pub lead_long : length at ≡ 64
  lead_long = i.walks.within.long

  pub lead_long_ends : length ends ≡ 64
  lead_long_ends = i.walks.within.long_ends

  pub lead_stands : Stands s (get_or at p 0) (get_or ends p 0)
  lead_stands = i.walks.within.each p i.inside

  module _ (f₁ : List ℕ) (t : Settled f f₁ p top) (bound : ℕ) (l : Lowest f₁ 64 72 bound) (r : Stretch) (g : Sought s (get_or at p 0) (get_or ends p 0) bound r) where
    k : Stretches (take (get_or ends p 0) s) (get_or at p 0) bound r.to r.announced r.withdrawn
    k = go g
      where
        go : Sought s (get_or at p 0) (get_or ends p 0) bound r → Stretches (take (get_or ends p 0) s) (get_or at p 0) bound r.to r.announced r.withdrawn
        go (sought z) = z

    abbrev to : ℕ
    to = r.to

    on_stands : Stands s to (get_or ends p 0)
    on_stands = record { ready = k.ready; within = lead_stands.within }

    pub lead_advances : Advances s at ends f₁ p to
    lead_advances = record { long = lead_long; long_ends = lead_long_ends; blocks = t.blocks; small = lead_few; stands = on_stands }

    module _ (at' : List ℕ) (e : at' ≡ set at p to) where
      here_at : get_or at' p 0 ≡ to
      here_at = rw e (get_or-set_same at p to 0 (omega (arith, lead_few, lead_long)))

      other_at : (j : ℕ) → (j ≡ p → ⊥) → get_or at' j 0 ≡ get_or at j 0
      other_at j d = rw e (get_or-set_other at p j to 0 d)

      moves : Moves s at at' ends p k.passed from (n - from)
      unfolding run
      moves = record {
        first = rw here_at k.split;
        others = λ j x y d.
            let q = (line i.fronted).each j x (omega (arith, i.ahead, i.inside)) in
            let u = all_under f₁ bound t.blocks l j (omega (arith, i.ahead, i.inside, i.walks.within.few)) in
            let w = t.others j (omega (arith, i.ahead, i.inside, i.walks.within.few)) d in
            (other_at j d, low_before bound k.passed (run s (get_or at j 0) (get_or ends j 0)) k.low (omega (arith, u, w, q.is)) q.octets);
      }

      ahead : Ahead k.passed (runs s at ends from n) (runs s at' ends from n)
      ahead = ahead_runs s at at' ends p k.passed from (n - from) i.ahead (omega (arith, i.ahead, i.inside)) moves

      each : (j : ℕ) → j < n → Dec (j ≡ p) → Stands s (get_or at' j 0) (get_or ends j 0)
      each j z (yes d) = rw (d, here_at) on_stands
      each j z (no d) = rw (other_at j d) (i.walks.within.each j z)

      lead_lone : LoneIs s at at' ends from n (record { from = get_or at p 0; to = to; announced = r.announced; withdrawn = r.withdrawn })
      lead_lone = passes k.passed (record {
        walks = record {
          within = record { few = i.walks.within.few; long = rw e (length-set at p to ∙ lead_long); long_ends = lead_long_ends; each = λ j z. each j z (ℕ_discrete j p) };
          up = ahead_sorted k.passed ahead i.walks.up;
        };
        is = ahead_first k.passed ahead [] (before_nil k.passed) tt i.walks.up;
        fewer = ahead_fewer k.passed ahead;
        lies = k.lies ∙ part_take s (get_or ends p 0) (get_or at p 0) to k.ready.within;
        ordered = k.on;
        within = omega (arith, k.ready.within, length-take (get_or ends p 0) s);
        short = k.short;
        announced = k.announced_is;
        withdrawn = k.withdrawn_is;
        number = k.number;
      })

      lead_fronted : (f₂ : List ℕ) → Advanced s ends f₁ f₂ p to → Fronted s at' ends from n f₂
      lead_fronted f₂ v = lined (record {
        blocks = v.settled.blocks;
        each = λ j x y. front j x y (ℕ_discrete j p);
        before = λ j x y. stays j y (λ d. omega (arith, i.ahead)) ∙ (line i.fronted).before j x y;
        behind = λ j x y. stays j y (λ d. omega (arith, i.inside)) ∙ (line i.fronted).behind j x y;
      })
        where
          stays : (j : ℕ) → j < 64 → (j ≡ p → ⊥) → get_or f₂ j 0 ≡ get_or f j 0
          stays j y d = v.settled.others j y d ∙ t.others j y d

          front : (j : ℕ) → from ≤ j → j < n → Dec (j ≡ p) → Fronts s (get_or at' j 0) (get_or ends j 0) (get_or f₂ j 0)
          front j x y (yes d) = rw (d, here_at, v.settled.here) v.is
          front j x y (no d) = rw (other_at j d, stays j (omega (arith, i.walks.within.few)) d) ((line i.fronted).each j x y)

-- the walk behind it
module _ (w : Walk) (p : ℕ) (i : Leads w.store.now w.at w.ends w.from w.n w.fronts.of p) (f₁ : List ℕ) (t : Settled w.fronts.of f₁ p top)
    (bound : ℕ) (l : Lowest f₁ 64 72 bound) (r : Stretch) (g : Sought w.store.now (get_or w.at p 0) (get_or w.ends p 0) bound r)
    (w' : Walk) (e : w'.at ≡ set w.at p r.to) (k : Kept (record w { fronts = record { of = f₁ } }) w') where
  pub lead_kept : Kept w w'
  lead_kept = record { store = k.store; ends = k.ends; from = k.from; n = k.n }

  pub lead_passed : Passed w w' (record { from = get_or w.at p 0; to = r.to; announced = r.announced; withdrawn = r.withdrawn })
  lead_passed = lead_lone w.store.now w.at w.ends w.from w.n w.fronts.of p i f₁ t bound l r g w'.at e

  pub lead_going : Advanced w.store.now w.ends f₁ w'.fronts.of p r.to → Underway w'
  lead_going v = record { walks = rw (k.store, k.ends, k.from, k.n) (go lead_passed); fronted = rw (k.store, k.ends, k.from, k.n) fronted }
    where
      go : {r : Lone} → Passed w w' r → Walks w.store.now w'.at w.ends w.from w.n
      go (passes d q) = q.walks

      fronted : Fronted w.store.now w'.at w.ends w.from w.n w'.fronts.of
      fronted = lead_fronted w.store.now w.at w.ends w.from w.n w.fronts.of p i f₁ t bound l r g w'.at e w'.fronts.of v

pub ruleset passing = (lead_blocks, lead_few, lead_long, lead_long_ends, lead_stands, lead_advances, lead_kept, lead_passed, lead_going)

-- ---- pass_lone

module _ (w : Walk) (u : Underway w) where
  pub lone_blocks : Blocks w.fronts.of
  lone_blocks = (line u.fronted).blocks

  pub lone_long : length w.fronts.of ≡ 72
  lone_long = (line u.fronted).blocks.long

  pub lone_few : w.n ≤ 64
  lone_few = u.walks.within.few

  pub lone_none : Passed w w (record { from = 0; to = 0; announced = 0; withdrawn = 0 })
  unfolding cell_bytes
  lone_none = passes [] (record {
    walks = u.walks;
    is = refl;
    fewer = omega arith;
    lies = refl;
    ordered = omega arith;
    within = omega arith;
    short = omega arith;
    announced = refl;
    withdrawn = refl;
    number = refl;
  })

  pub lone_kept : Kept w w
  lone_kept = kept_self w

  pub lone_leads : (low p : ℕ) → Finds w.fronts.of low w.from w.n p → p < w.n → Leads w.store.now w.at w.ends w.from w.n w.fronts.of p
  lone_leads low p t h = record { walks = u.walks; fronted = u.fronted; ahead = t.ahead; inside = h }

pub ruleset lone_passing = (lone_blocks, lone_long, lone_few, lone_none, lone_kept, lone_leads)
