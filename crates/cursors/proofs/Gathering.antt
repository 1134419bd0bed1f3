-- Laws of the changes at one key: of one run, and of all, merged.
use Prim.Native.Nat.{ℕ, zero, suc, ◌+◌, ◌-◌, ◌≤◌, ◌<◌}
use mathlib.Core.Path.{◌≡◌, refl, sym, ap, ◌∙◌}
use mathlib.Core.List.{List, [], ◌∷◌, map, foldl}
use mathlib.Core.Option.{none, some}
use mathlib.Core.Bool.{Bool, true}
use native.Mathlib.Omega.{arith}
use native.Mathlib.Decide.{ℕ_discrete}
use lib.ListN.{length, get_or, set, length-set}
use lib.Seq.{get_or-set_same, get_or-set_other}
use Rattle.std.specs.declared.cmp.Ordering.{Ordering}
use Rattle.std.specs.declared.cmp.Ordering.TheVariants.{Less, Equal, Greater}
use Rattle.order.specs.Comparison.{bytes}
use Rattle.order.specs.Map.{own}
use Rattle.order.specs.Many.{first, past, past_of}
use Rattle.order.proofs.Comparison.{strings}
use Rattle.change.specs.Merge.{merge_at}
use Rattle.change.proofs.Tables.{none_merge}
use Rattle.payload.specs.Content.{Bytes}
use Rattle.item.specs.declared.place.Act.{Act}
use Rattle.item.specs.Place.{held_in}
use Rattle.cursors.specs.Cursor.{D, run, runs_n, runs, Stands, Within, key_at, Filled, HeldAt, ChangeFits, Says, Gathered}
use Rattle.item.specs.Front.{front_key, top}
use Rattle.cursors.specs.Front.{front_of, Fronts, Blocks, Finds, Settled, Fronted, lined, line, key_of_run, Meets, Takes, Taken}
use Rattle.cursors.specs.declared.runs.Walk.{Walk}
use Rattle.cursors.specs.Walk.{InLine, Kept, Took}
use Rattle.cursors.proofs.Standing.{runs_cons, runs_nil}
use Rattle.cursors.proofs.Keeping.{kept_self, kept_both}
use Rattle.cursors.proofs.Leasting.{filled_low}
use Rattle.std.specs.Prelude.{None, Option, Some}

-- ---- gather: what is merged of the changes, with those that are left; each run that was asked is past the key

-- runs that one by one are another's, past k, are so together
runs_past : (s : Bytes) (at₀ at ends : List ℕ) (k : Bytes) (r m : ℕ) →
    ((j : ℕ) → r ≤ j → j < r + m → run s (get_or at j 0) (get_or ends j 0) ≡ past bytes k (run s (get_or at₀ j 0) (get_or ends j 0))) →
    runs_n s at ends r m ≡ map (past bytes k) (runs_n s at₀ ends r m)
unfolding runs_n
runs_past s at₀ at ends k r zero h = refl
runs_past s at₀ at ends k r (suc m) h =
    cc (h r (omega arith) (omega arith), runs_past s at₀ at ends k (suc r) m (λ j a b. h j (omega arith) (omega arith)))

pub record Gathered-to (s : Bytes) (at₀ ends : List ℕ) (from n : ℕ) (k : Bytes) (at : List ℕ) (held : Option Act) (r : ℕ) : Type 0 where
  pub within : Within s at ends n
  pub same_long : length at ≡ length at₀
  pub inside : HeldAt s held
  pub left : foldl (merge_at bytes) (held_in s s held) (map (first bytes k) (runs_n s at₀ ends r (n - r)))
      ≡ foldl (merge_at bytes) none (map (first bytes k) (runs s at₀ ends from n))
  pub kept : (j : ℕ) → r ≤ j → get_or at j 0 ≡ get_or at₀ j 0
  pub gone : (j : ℕ) → from ≤ j → j < r → run s (get_or at j 0) (get_or ends j 0) ≡ past bytes k (run s (get_or at₀ j 0) (get_or ends j 0))

old_start : (s : Bytes) (at ends : List ℕ) (from n : ℕ) (k : Bytes) → Within s at ends n → Gathered-to s at ends from n k at None from
old_start s at ends from n k w = record {
  within = w;
  same_long = refl;
  inside = record { fits = tt };
  left = refl;
  kept = λ j h. refl;
  gone = λ j h g. absurd (omega arith);
}

module _ (s : Bytes) (at₀ ends : List ℕ) (from n : ℕ) (k : Bytes) (at : List ℕ) (held : Option Act) (r : ℕ) (i : Gathered-to s at₀ ends from n k at held r) where
  module _ (h : r < n) (a : Option (Act × ℕ)) (u : Says s (get_or at r 0) (get_or ends r 0) k a) where
    old_pass : a ≡ None → Gathered-to s at₀ ends from n k at held (r + 1)
    old_pass q = record {
      within = i.within;
      same_long = i.same_long;
      inside = i.inside;
      left = rw (same, i.kept r (omega arith)) (rw (runs_cons s at₀ ends r n h) at i.left);
      kept = λ j z. i.kept j (omega arith);
      gone = λ j z w. gone j z w (ℕ_discrete j r);
    }
      where
        same : held_in s s held ≡ merge_at bytes (held_in s s held) (first bytes k (run s (get_or at r 0) (get_or ends r 0)))
        same = rw (u.change, q) (sym (none_merge strings (held_in s s held)))

        gone : (j : ℕ) → from ≤ j → j < r + 1 → Dec (j ≡ r) → run s (get_or at j 0) (get_or ends j 0) ≡ past bytes k (run s (get_or at₀ j 0) (get_or ends j 0))
        gone j z w (yes e) = rw (e, ← i.kept r (omega arith)) (rw q at u.gone)
        gone j z w (no e) = i.gone j z (omega arith)

  old_done : n ≤ r → Gathered s at₀ at ends from n k held
  old_done h = record {
    holds = record { fits = i.inside.fits; is = rw (runs_nil s at₀ ends r n h) at i.left };
    within = i.within;
    gone = runs_past s at₀ at ends k from (n - from) (λ j a b. i.gone j a (omega arith));
  }

old_take : (s : Bytes) (at₀ ends : List ℕ) (from n q g : ℕ) (at : List ℕ) (held : Option Act) (r : ℕ) → Gathered-to s at₀ ends from n (key_at s q g) at held r →
    r < n → (at' f₀ f : List ℕ) (t : Option Act) → Taken s at at' ends f₀ f r q g held t → Gathered-to s at₀ ends from n (key_at s q g) at' t (r + 1)
old_take s at₀ ends from n q g at held r i h at' f₀ f t u = record {
  within = record {
    few = i.within.few;
    long = rw u.moved (length-set at r u.place ∙ i.within.long);
    long_ends = i.within.long_ends;
    each = λ j z. rw u.moved (each j z (ℕ_discrete j r));
  };
  same_long = rw u.moved (length-set at r u.place ∙ i.same_long);
  inside = record { fits = u.holds.fits };
  left = rw (u.holds.is, i.kept r (omega arith)) (rw (runs_cons s at₀ ends r n h) at i.left);
  kept = λ j z. rw u.moved (get_or-set_other at r j u.place 0 (λ w. omega arith) ∙ i.kept j (omega arith));
  gone = λ j z w. rw u.moved (gone j z w (ℕ_discrete j r));
}
  where
    here : get_or (set at r u.place) r 0 ≡ u.place
    here = get_or-set_same at r u.place 0 (omega (arith, i.within.long, i.within.few))

    each : (j : ℕ) → j < n → Dec (j ≡ r) → Stands s (get_or (set at r u.place) j 0) (get_or ends j 0)
    each j z (yes e) = rw (e, here) u.stands
    each j z (no e) = rw (get_or-set_other at r j u.place 0 e) (i.within.each j z)

    gone : (j : ℕ) → from ≤ j → j < r + 1 → Dec (j ≡ r) →
        run s (get_or (set at r u.place) j 0) (get_or ends j 0) ≡ past bytes (key_at s q g) (run s (get_or at₀ j 0) (get_or ends j 0))
    gone j z w (yes e) = rw (e, here, ← i.kept r (omega arith)) u.gone
    gone j z w (no e) = rw (get_or-set_other at r j u.place 0 e) (i.gone j z (omega arith))

-- ---- runs with another front say nothing of the key

other_front : (k : Bytes) (d : D) → (front_of d ≡ front_key k → ⊥) → (first bytes k d ≡ none) × (past bytes k d ≡ d)
other_front k [] h = (refl, refl)
other_front k (x ∷ d) h = go (bytes k x.key) refl
  where
    go : (o : Ordering) → bytes k x.key ≡ o → (own o (some x.val) none ≡ none) × (past_of o x d ≡ x ∷ d)
    go Less e = (refl, refl)
    go Equal e = absurd (h (ap front_key (sym (strings.same k x.key e))))
    go Greater e = (refl, refl)

says_nothing : (s : Bytes) (p e : ℕ) (k : Bytes) → (front_of (run s p e) ≡ front_key k → ⊥) → Says s p e k None
says_nothing s p e k h = let o = other_front k (run s p e) h in record { fits = tt; change = o.0; gone = sym o.1 }

-- closed: a search does not look into it
pub data So-far (s : Bytes) (at₀ ends : List ℕ) (from n : ℕ) (k : Bytes) (at : List ℕ) (held : Option Act) (r : ℕ) : Type 0 where
  so : Gathered-to s at₀ ends from n k at held r → So-far s at₀ ends from n k at held r

abbrev to_now : {s : Bytes} {at₀ ends : List ℕ} {from n : ℕ} {k : Bytes} {at : List ℕ} {held : (Option Act)} {r : ℕ} → So-far s at₀ ends from n k at held r →
    Gathered-to s at₀ ends from n k at held r
to_now (so g) = g

pass_many : (s : Bytes) (at₀ ends : List ℕ) (from n : ℕ) (k : Bytes) (at f : List ℕ) (held : Option Act) (low r m : ℕ) → from ≤ r → r + m ≤ n →
    Gathered-to s at₀ ends from n k at held r → Fronted s at ends from n f → low ≡ front_key k →
    ((j : ℕ) → r ≤ j → j < r + m → j < n → get_or f j 0 ≡ low → ⊥) → Gathered-to s at₀ ends from n k at held (r + m)
pass_many s at₀ ends from n k at f held low r zero a b i t e q = let z : r + 0 ≡ r = omega arith in rw z i
pass_many s at₀ ends from n k at f held low r (suc m) a b i t e q =
    let z : r + suc m ≡ r + m + 1 = omega arith in
    rw z (old_pass s at₀ ends from n k at held (r + m)
    (pass_many s at₀ ends from n k at f held low r m a (omega arith) i t e (λ j x y z. q j x (omega arith) z))
    (omega arith) None
    (says_nothing s (get_or at (r + m) 0) (get_or ends (r + m) 0) k
    (λ z. q (r + m) (omega arith) (omega arith) (omega arith) (((line t).each (r + m) (omega arith) (omega arith)).is ∙ z ∙ sym e)))
    refl)

pub record Gathering (s : Bytes) (at₀ ends : List ℕ) (f₀ : List ℕ) (low from n first last q g : ℕ) (same : Bool) (at f : List ℕ) (held : Option Act) (r : ℕ) : Type 0 where
  pub alike : same ≡ true → (j : ℕ) → first ≤ j → r ≤ j → j ≤ last → get_or f j 0 ≡ low → key_of_run s at ends j ≡ key_at s q g
  pub key : Filled s q g
  pub few : n ≤ 64
  pub some_left : low < top
  pub long : length f ≡ length f₀
  pub same_long : length at ≡ length at₀
  pub begin : first ≤ r
  pub start : from ≤ r
  pub until : r ≤ last + 1
  pub inside : last < n
  pub so_far : So-far s at₀ ends from n (key_at s q g) at held r
  pub fronted : Fronted s at ends from n f
  pub front : low ≡ front_key (key_at s q g)
  pub behind : (j : ℕ) → last < j → j < n → get_or f j 0 ≡ low → ⊥

gather_start : (s : Bytes) (at ends f : List ℕ) (low from n first last q g : ℕ) (same : Bool) → Meets s at ends from n f low first last q g same →
    Gathering s at ends f low from n first last q g same at f None first
gather_start s at ends f low from n first last q g same m =
    let t = m.tied in
    let z : from + (first - from) ≡ first = omega (arith, t.ahead) in
    record {
      alike = λ z j x y u e. m.alike z j x u e;
      key = m.key;
      few = m.within.few;
      some_left = m.some_left;
      long = refl;
      same_long = refl;
      begin = omega arith;
      start = t.ahead;
      until = omega (arith, t.ordered);
      inside = t.inside;
      so_far = so (rw z at (pass_many s at ends from n (key_at s q g) at f None low from (first - from) (omega arith) (omega (arith, z, t.ordered, t.inside))
          (old_start s at ends from n (key_at s q g) m.within) m.fronted m.front (λ j x y u e. omega (arith, z, (t.others j x u e).0))));
      fronted = m.fronted;
      front = m.front;
      behind = λ j x y e. omega (arith, (t.others j (omega (arith, t.ahead, t.ordered)) y e).1);
    }

module _ (s : Bytes) (at₀ ends f₀ : List ℕ) (low from n first last q g : ℕ) (same : Bool) (at f : List ℕ) (held : Option Act) (r : ℕ) (i : Gathering s at₀ ends f₀ low from n first last q g same at f held r) where
  gather_blocks : Blocks f
  gather_blocks = (line i.fronted).blocks

  gather_room : last + 1 ≤ 64
  gather_room = omega (arith, i.inside, i.few)

  module _ (p : ℕ) (t : Finds f low r (last + 1) p) where
    reach : (c : ℕ) → r ≤ c → c ≤ p → c ≤ last + 1 → Gathered-to s at₀ ends from n (key_at s q g) at held c
    reach c a b d =
        let z : r + (c - r) ≡ c = omega arith in
        rw z at (pass_many s at₀ ends from n (key_at s q g) at f held low r (c - r) i.start (omega (arith, z, i.inside)) (to_now i.so_far) i.fronted i.front
        (λ j x y w. t.other j x (omega (arith, z)) (omega (arith, z))))

    gather_takes : p ≤ last → Takes s at ends f p q g same held
    gather_takes h =
        let c = to_now i.so_far in
        let e = (line i.fronted).each p (omega (arith, i.start, t.ahead)) (omega (arith, i.inside)) in
        record {
          alike = record { holds = λ z. i.alike z p (omega (arith, t.ahead, i.begin)) t.ahead h (t.found (omega arith)) };
          key = i.key;
          long = c.within.long;
          long_ends = c.within.long_ends;
          blocks = gather_blocks;
          small = omega (arith, i.few, i.inside);
          filled = filled_low s (get_or at p 0) (get_or ends p 0) (get_or f p 0) (c.within.each p (omega (arith, i.inside))) e (omega (arith, t.found (omega arith), i.some_left));
          front = e;
          inside = c.inside;
        }

    gather_again : p ≤ last → (at' f' : List ℕ) (c : Option Act) → Taken s at at' ends f f' p q g held c → Gathering s at₀ ends f₀ low from n first last q g same at' f' c (p + 1)
    gather_again h at' f' c u = record {
      alike = λ z j x l o e. rw (u.moved, get_or-set_other at p j u.place 0 (λ d. omega arith)) (i.alike z j x (omega (arith, t.ahead)) o (sym (y.others j (omega (arith, i.few, i.inside)) (λ d. omega arith)) ∙ e));
      begin = omega (arith, i.begin, t.ahead);
      key = i.key;
      few = i.few;
      some_left = i.some_left;
      long = y.same_long ∙ i.long;
      same_long = rw u.moved (length-set at p u.place ∙ i.same_long);
      start = omega (arith, i.start, t.ahead);
      until = omega arith;
      inside = i.inside;
      so_far = so (old_take s at₀ ends from n q g at held p (reach p t.ahead (omega arith) (omega arith)) (omega (arith, i.inside)) at' f f' c u);
      fronted = lined (record {
        blocks = y.blocks;
        each = λ j l o. rw u.moved (each j l o (ℕ_discrete j p));
        before = λ j l o. y.others j o (λ d. omega (arith, i.start, t.ahead)) ∙ (line i.fronted).before j l o;
        behind = λ j l o. y.others j o (λ d. omega (arith, i.inside)) ∙ (line i.fronted).behind j l o;
      });
      front = i.front;
      behind = λ j l o e. i.behind j l o (sym (y.others j (omega (arith, i.few)) (λ d. omega arith)) ∙ e);
    }
      where
        y : Settled f f' p u.fronts.front
        y = u.fronts.settled

        here : get_or (set at p u.place) p 0 ≡ u.place
        here = get_or-set_same at p u.place 0 (omega (arith, (to_now i.so_far).within.long, i.few, i.inside))

        each : (j : ℕ) → from ≤ j → j < n → Dec (j ≡ p) → Fronts s (get_or (set at p u.place) j 0) (get_or ends j 0) (get_or f' j 0)
        each j l o (yes d) = rw (d, here, y.here) u.fronts.is
        each j l o (no d) = rw (get_or-set_other at p j u.place 0 d, y.others j (omega (arith, i.few)) d) ((line i.fronted).each j l o)

    gather_done : last < p → Gathered s at₀ at ends from n (key_at s q g) held
    gather_done h =
        let z : last + 1 + (n - (last + 1)) ≡ n = omega (arith, i.inside) in
        old_done s at₀ ends from n (key_at s q g) at held n
        (rw z at (pass_many s at₀ ends from n (key_at s q g) at f held low (last + 1) (n - (last + 1)) (omega (arith, i.start, i.until)) (omega (arith, z))
        (reach (last + 1) i.until (omega arith) (omega arith)) i.fronted i.front (λ j x y w. i.behind j (omega arith) w)))
        (omega arith)

-- ---- gather, of a walk

-- the walk is over the same runs, and so far the changes are gathered
pub record GatheringOn (w₀ : Walk) (low first last q g : ℕ) (same : Bool) (w : Walk) (held : Option Act) (r : ℕ) : Type 0 where
  pub kept : Kept w₀ w
  pub on : Gathering w₀.store.now w₀.at w₀.ends w₀.fronts.of low w₀.from w₀.n first last q g same w.at w.fronts.of held r

pub on_start : (w : Walk) (low first last q g : ℕ) (same : Bool) → Meets w.store.now w.at w.ends w.from w.n w.fronts.of low first last q g same →
    GatheringOn w low first last q g same w None first
on_start w low first last q g same m = record { kept = kept_self w; on = gather_start w.store.now w.at w.ends w.fronts.of low w.from w.n first last q g same m }

module _ (w₀ : Walk) (low first last q g : ℕ) (same : Bool) (w : Walk) (held : Option Act) (r : ℕ) (i : GatheringOn w₀ low first last q g same w held r) where
  pub on_blocks : Blocks w.fronts.of
  on_blocks = (line i.on.fronted).blocks

  pub on_room : last + 1 ≤ 64
  on_room = gather_room w₀.store.now w₀.at w₀.ends w₀.fronts.of low w₀.from w₀.n first last q g same w.at w.fronts.of held r i.on

  module _ (p : ℕ) (t : Finds w.fronts.of low r (last + 1) p) where
    pub on_takes : p ≤ last → Takes w.store.now w.at w.ends w.fronts.of p q g same held
    on_takes h = rw (i.kept.store, i.kept.ends) (gather_takes w₀.store.now w₀.at w₀.ends w₀.fronts.of low w₀.from w₀.n first last q g same w.at w.fronts.of held r i.on p t h)

    pub on_again : p ≤ last → (w' : Walk) (c : Option Act) → Taken w.store.now w.at w'.at w.ends w.fronts.of w'.fronts.of p q g held c → Kept w w' →
        GatheringOn w₀ low first last q g same w' c (p + 1)
    on_again h w' c u k = record {
      kept = kept_both w₀ w w' i.kept k;
      on = gather_again w₀.store.now w₀.at w₀.ends w₀.fronts.of low w₀.from w₀.n first last q g same w.at w.fronts.of held r i.on p t h w'.at w'.fronts.of c
          (rw (i.kept.store, i.kept.ends) at u);
    }

    pub on_done : last < p → Took w₀ w q g held
    on_done h = gather_done w₀.store.now w₀.at w₀.ends w₀.fronts.of low w₀.from w₀.n first last q g same w.at w.fronts.of held r i.on p t h

  pub on_line : InLine w
  on_line = rw (i.kept.store, i.kept.ends, i.kept.from, i.kept.n) i.on.fronted

  pub on_kept : Kept w₀ w
  on_kept = i.kept

pub ruleset gathering = (on_start, on_blocks, on_room, on_takes, on_again, on_done, on_line, on_kept)

-- ---- take

module _ (s : Bytes) (at ends f : List ℕ) (p q g : ℕ) (same : Bool) (held : Option Act) (i : Takes s at ends f p q g same held) where
  module _ (a : Option (Act × ℕ)) (u : Says s (get_or at p 0) (get_or ends p 0) (key_at s q g) a) where
    module _ (b : Act) (x : ℕ) (e : a ≡ Some (b, x)) where
      fits : ChangeFits s (get_or ends p 0) b x
      fits = rw e at u.fits
