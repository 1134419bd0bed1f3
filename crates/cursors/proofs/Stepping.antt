-- Laws of the next item: one turn of the walk over the runs.
use Prim.Native.Nat.{ℕ, suc, ◌≤◌, ◌<◌}
use mathlib.Core.Path.{◌≡◌, refl, sym, ◌∙◌}
use mathlib.Core.List.{List, [], ◌∷◌, map, foldl}
use mathlib.Core.Option.{Option, none, some}
use mathlib.Core.Logic.{◌⊎◌, inl, inr, ⊎_elim}
use native.Mathlib.Omega.{arith}
use lib.ListN.{length}
use Rattle.std.specs.declared.cmp.Ordering.{Ordering}
use Rattle.std.specs.declared.cmp.Ordering.TheVariants.{Less, Equal, Greater}
use Rattle.order.specs.Comparison.{bytes}
use Rattle.order.specs.Map.{Item}
use Rattle.order.specs.Walk.{emit}
use Rattle.order.specs.Many.{lower, lower_of, least, past, past_of}
use Rattle.order.proofs.Comparison.{strings}
use Rattle.order.proofs.Map.{none≢some}
use Rattle.order.proofs.Many.{pasts_sorted, least_step, least_none}
use Rattle.order.proofs.Never.{never}
use Rattle.change.specs.Change.{Change}
use Rattle.change.specs.Merge.{merge_at}
use Rattle.payload.specs.Content.{Bytes}
use Rattle.item.specs.declared.place.Act.{Act}
use Rattle.item.specs.declared.place.Entry.{Entry}
use Rattle.item.specs.Place.{held_in}
use Rattle.cursors.specs.Cursor.{D, runs, left_of, items_in, items_left, Walks, Heads, key_at, Filled, Gathered, Made, made, NextIs}
use Rattle.cursors.specs.Front.{Lowest, Fronted, line, Looks, LeastIs, LeastBy, nowhere_left, stands_at, Meets}
use Rattle.cursors.specs.declared.runs.Walk.{Walk}
pub use Rattle.cursors.specs.Walk.{items_of}
use Rattle.cursors.specs.Walk.{InLine, Underway, Kept, Gives, Took}
use Rattle.cursors.proofs.Standing.{head_end, head_fits}
use Rattle.cursors.proofs.Keeping.{kept_self, kept_both}
use Rattle.cursors.proofs.Ranking.{filled_stands, head_key_lem}
use Rattle.std.specs.Prelude as opt
use Rattle.std.specs.Prelude.{None, Some}
use Rattle.field.specs.declared.key.Key.{Key}
use Rattle.cursors.specs.declared.least.Lead.{Lead}

-- ---- past their least key the runs have fewer items

past_le : (k : Bytes) (d : D) → length (past bytes k d) ≤ length d
past_le k [] = omega arith
past_le k (x ∷ d) = go (bytes k x.key)
  where
    go : (o : Ordering) → length (past_of o x d) ≤ suc (length d)
    go Less = omega arith
    go Equal = omega arith
    go Greater = omega arith

pasts_le : (k : Bytes) (ds : List D) → items_in (map (past bytes k) ds) ≤ items_in ds
pasts_le k [] = omega arith
pasts_le k (d ∷ ds) = omega (arith, past_le k d, pasts_le k ds)

past_here : (k : Bytes) (x : Item Bytes (Change Bytes)) (d : D) → x.key ≡ k → length (past bytes k (x ∷ d)) < suc (length d)
past_here k x d h = let e : bytes k x.key ≡ Equal = rw h (strings.self k) in rw e (omega arith)

-- the key was there before, or the run has it
low_falls : (k : Bytes) (o : Option Bytes) (d : D) → lower bytes o d ≡ some k → (o ≡ some k) ⊎ (length (past bytes k d) < length d)
low_falls k none [] e = inl e
low_falls k (some l) [] e = inl e
low_falls k none (x ∷ d) e = let h : x.key ≡ k = cc in inr (past_here k x d h)
low_falls k (some l) (x ∷ d) e = go (bytes l x.key) e
  where
    go : (c : Ordering) → some (lower_of c l x.key) ≡ some k → (some l ≡ some k) ⊎ (length (past bytes k (x ∷ d)) < suc (length d))
    go Less e = inl e
    go Equal e = inl e
    go Greater e = let h : x.key ≡ k = cc in inr (past_here k x d h)

lows_fall : (k : Bytes) (o : Option Bytes) (ds : List D) → foldl (lower bytes) o ds ≡ some k →
    (o ≡ some k) ⊎ (items_in (map (past bytes k) ds) < items_in ds)
lows_fall k o [] e = inl e
lows_fall k o (d ∷ ds) e = ⊎_elim
    (λ h. ⊎_elim (λ g. inl g) (λ g. inr (omega (arith, pasts_le k ds))) (low_falls k o d h))
    (λ h. inr (omega (arith, past_le k d)))
    (lows_fall k (lower bytes o d) ds e)

least_falls : (k : Bytes) (ds : List D) → least bytes ds ≡ some k → items_in (map (past bytes k) ds) < items_in ds
least_falls k ds e = ⊎_elim (λ h. absurd (none≢some {o = none} refl h)) (λ h. h) (lows_fall k none ds e)

-- ---- next: what is left is what there was

nothing≢lead : (l : Lead) → ◌≡◌ {A = opt.Option Lead} None (Some l) → ⊥
nothing≢lead l q = never cc

pub record Stepping (s : Bytes) (at₀ ends : List ℕ) (f₀ : List ℕ) (from n : ℕ) (at f : List ℕ) : Type 0 where
  pub fronted : Fronted s at ends from n f
  pub long : length f ≡ length f₀
  pub long_f : length f ≡ 72
  pub walks : Walks s at ends from n
  pub same_long : length at ≡ length at₀
  pub left : left_of s at₀ ends from n ≡ left_of s at ends from n
  pub fewer : items_left s at ends from n ≤ items_left s at₀ ends from n

step_start : (s : Bytes) (at ends f : List ℕ) (from n : ℕ) → Walks s at ends from n → Fronted s at ends from n f → Stepping s at ends f from n at f
step_start s at ends f from n w u = record { fronted = u; long = refl; long_f = (line u).blocks.long; walks = w; same_long = refl; left = refl; fewer = omega arith }

module _ (s : Bytes) (at₀ ends f₀ : List ℕ) (from n : ℕ) (at f : List ℕ) (i : Stepping s at₀ ends f₀ from n at f) where
  step_looks : (low : ℕ) → Lowest f 64 72 low → Looks s at ends from n f low
  step_looks low l = record { within = i.walks.within; fronted = i.fronted; lowest = l }

  module _ (low : ℕ) (b : opt.Option Lead) (lb : LeastBy s at ends from n f low b) where
    step_end : b ≡ None → NextIs s at₀ at ends from n None
    step_end e = go lb
      where
        go : LeastBy s at ends from n f low b → NextIs s at₀ at ends from n None
        go (nowhere_left q z) = record { walks = i.walks; fits = tt; is = i.left ∙ least_none strings (merge_at bytes) refl (runs s at ends from n) z }
        go (stands_at l q z) = absurd (nothing≢lead l (sym e ∙ q))

    module _ (d : Lead) (e : b ≡ Some d) where
      l : LeastIs s at ends from n f low d.at d.end d.first d.last d.same
      l = go lb
        where
          go : LeastBy s at ends from n f low b → LeastIs s at ends from n f low d.at d.end d.first d.last d.same
          go (nowhere_left q z) = absurd (nothing≢lead d (sym q ∙ e))
          go (stands_at d' q z) = let c : d' ≡ d = cc in rw (← c) z

      step_meets : Meets s at ends from n f low d.first d.last d.at d.end d.same
      step_meets = record { alike = l.alike; key = l.filled; within = i.walks.within; fronted = i.fronted; front = l.front; some_left = l.some_left; tied = l.tied }

      step_filled : Filled s d.at d.end
      step_filled = l.filled

      module _ (at' : List ℕ) (h : opt.Option Act) (g : Gathered s at at' ends from n (key_at s d.at d.end) h) where
        step_walks : Walks s at' ends from n
        step_walks = record { within = g.within; up = rw g.gone (pasts_sorted strings (key_at s d.at d.end) (runs s at ends from n) i.walks.up) }

        step_less : items_left s at' ends from n < items_left s at ends from n
        step_less = rw g.gone (least_falls (key_at s d.at d.end) (runs s at ends from n) l.key)

        emits : left_of s at₀ ends from n ≡ emit (key_at s d.at d.end) (held_in s s h) (left_of s at' ends from n)
        emits =
            i.left ∙ least_step strings (merge_at bytes) refl (key_at s d.at d.end) (runs s at ends from n) l.key i.walks.up
            ∙ rw (g.holds.is, g.gone)

        step_again : h ≡ None → (f' : List ℕ) → Fronted s at' ends from n f' → Stepping s at₀ ends f₀ from n at' f'
        step_again q f' u = record {
          fronted = u;
          long = (line u).blocks.long ∙ sym i.long_f ∙ i.long;
          long_f = (line u).blocks.long;
          walks = step_walks;
          same_long = g.within.long ∙ sym i.walks.within.long ∙ i.same_long;
          left = rw q at emits;
          fewer = omega (arith, step_less, i.fewer);
        }

        step_item : (a : Act) → h ≡ Some a → (r : opt.Option (Key × Act)) → Made s d.at d.end a r → NextIs s at₀ at' ends from n r
        step_item a q r (made k u z v) = rw v (record {
          walks = step_walks;
          fits = (record { key = u; act = rw q at g.holds.fits }, omega (arith, step_less, i.fewer));
          is = rw z (rw q at emits);
        })

-- ---- next, of a walk

-- the walk is over the same runs, and what is left is what there was
pub record SteppingOn (w₀ w : Walk) : Type 0 where
  pub kept : Kept w₀ w
  pub on : Stepping w₀.store.now w₀.at w₀.ends w₀.fronts.of w₀.from w₀.n w.at w.fronts.of

pub on_start : (w : Walk) → Underway w → SteppingOn w w
on_start w u = record { kept = kept_self w; on = step_start w.store.now w.at w.ends w.fronts.of w.from w.n u.walks u.fronted }

module _ (w₀ w : Walk) (i : SteppingOn w₀ w) where
  pub on_long : length w.fronts.of ≡ 72
  on_long = i.on.long_f

  pub on_kept : Kept w₀ w
  on_kept = i.kept

  pub on_underway : Underway w
  on_underway = record { walks = rw (i.kept.store, i.kept.ends, i.kept.from, i.kept.n) i.on.walks; fronted = rw (i.kept.store, i.kept.ends, i.kept.from, i.kept.n) i.on.fronted }

  pub on_looks : (low : ℕ) → Lowest w.fronts.of 64 72 low → Looks w.store.now w.at w.ends w.from w.n w.fronts.of low
  on_looks low l =
      rw (i.kept.store, i.kept.ends, i.kept.from, i.kept.n)
      (step_looks w₀.store.now w₀.at w₀.ends w₀.fronts.of w₀.from w₀.n w.at w.fronts.of i.on low l)

  module _ (low : ℕ) (b : opt.Option Lead) (lb : LeastBy w.store.now w.at w.ends w.from w.n w.fronts.of low b) where
    least_here : LeastBy w₀.store.now w.at w₀.ends w₀.from w₀.n w.fronts.of low b
    least_here = rw (i.kept.store, i.kept.ends, i.kept.from, i.kept.n) at lb

    pub on_end : b ≡ None → Gives w₀ w None
    on_end e = step_end w₀.store.now w₀.at w₀.ends w₀.fronts.of w₀.from w₀.n w.at w.fronts.of i.on low b least_here e

    module _ (d : Lead) (e : b ≡ Some d) where
      pub on_meets : Meets w.store.now w.at w.ends w.from w.n w.fronts.of low d.first d.last d.at d.end d.same
      on_meets =
          rw (i.kept.store, i.kept.ends, i.kept.from, i.kept.n)
          (step_meets w₀.store.now w₀.at w₀.ends w₀.fronts.of w₀.from w₀.n w.at w.fronts.of i.on low b least_here d e)

      module _ (w' : Walk) (k : Kept w w') where
        pub on_filled : Filled w'.store.now d.at d.end
        on_filled = rw (k.store, i.kept.store) (step_filled w₀.store.now w₀.at w₀.ends w₀.fronts.of w₀.from w₀.n w.at w.fronts.of i.on low b least_here d e)

        pub on_both : Kept w₀ w'
        on_both = kept_both w₀ w w' i.kept k

        module _ (h : opt.Option Act) (g : Took w w' d.at d.end h) where
          took : Gathered w₀.store.now w.at w'.at w₀.ends w₀.from w₀.n (key_at w₀.store.now d.at d.end) h
          took = rw (i.kept.store, i.kept.ends, i.kept.from, i.kept.n) at g

          pub on_less : items_of w' < items_of w
          on_less =
              rw (k.store, k.ends, k.from, k.n, i.kept.store, i.kept.ends, i.kept.from, i.kept.n)
              (step_less w₀.store.now w₀.at w₀.ends w₀.fronts.of w₀.from w₀.n w.at w.fronts.of i.on low b least_here d e w'.at h took)

          pub on_again : h ≡ None → InLine w' → SteppingOn w₀ w'
          on_again q u = record {
            kept = on_both;
            on = step_again w₀.store.now w₀.at w₀.ends w₀.fronts.of w₀.from w₀.n w.at w.fronts.of i.on low b least_here d e w'.at h took q w'.fronts.of
                (rw (on_both.store, on_both.ends, on_both.from, on_both.n) at u);
          }

          pub on_item : (a : Act) → h ≡ Some a → (r : opt.Option (Key × Act)) → Made w'.store.now d.at d.end a r → Gives w₀ w' r
          on_item a q r m = step_item w₀.store.now w₀.at w₀.ends w₀.fronts.of w₀.from w₀.n w.at w.fronts.of i.on low b least_here d e w'.at h took a q r (rw on_both.store at m)

          pub on_going : InLine w' → Underway w'
          on_going u = record {
            walks = rw (k.store, k.ends, k.from, k.n, i.kept.store, i.kept.ends, i.kept.from, i.kept.n)
                (step_walks w₀.store.now w₀.at w₀.ends w₀.fronts.of w₀.from w₀.n w.at w.fronts.of i.on low b least_here d e w'.at h took);
            fronted = u;
          }

pub ruleset stepping = (on_start, on_long, on_kept, on_underway, on_looks, on_end, on_meets, on_filled, on_both, on_less, on_again, on_item, on_going)

-- ---- made

module _ (s : Bytes) (p e : ℕ) (i : Filled s p e) (a : Act) (r : opt.Option Entry) (h : Heads s p e r) where
  pub made_never : r ≡ None → Made s p e a None
  made_never q = absurd (i.some (head_end s p e r h q))

  pub made_item : (x : Entry) → r ≡ Some x → Made s p e a (Some (x.key, a))
  made_item x q = made x.key (head_fits s p e r h x q).key (sym (head_key_lem s p e r h x q)) refl

pub ruleset making = (filled_stands, made_never, made_item)
