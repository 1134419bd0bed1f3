-- Laws of 64 numbers with the lowest of each eight.
use Prim.Native.Nat.{ℕ, ◌+◌, ◌*◌, ◌-◌, ◌/◌, ◌≤◌, ◌<◌, min}
use mathlib.Core.Path.{◌≡◌, refl, sym, ◌∙◌}
use mathlib.Core.List.{List}
use native.Mathlib.Omega.{arith}
use native.Mathlib.Decide.{ℕ_discrete, dec_le}
use lib.ListN.{length, get_or, set, length-set}
use lib.Seq.{get_or-set_same, get_or-set_other}
use Rattle.item.specs.Front.{top}
use Rattle.cursors.specs.Front.{Sits, nowhere, on, Lowest, Blocks, Finds, Skips, Settled}

-- ---- lowest

join : (f : List ℕ) (a b c x y r : ℕ) → a ≤ b → b ≤ c → Lowest f a b x → Lowest f b c y → r ≡ min x y → Lowest f a c r
join f a b c x y r h k l m e = record { under = λ j p q. under j p q (dec_le b j); sits = sits (dec_le x y) }
  where
    under : (j : ℕ) → a ≤ j → j < c → Dec (b ≤ j) → r ≤ get_or f j 0
    under j p q (yes z) = omega (arith, e, m.under j z q)
    under j p q (no z) = omega (arith, e, l.under j p (omega arith))

    left : Sits f a b x → Sits f a c x
    left (nowhere z) = nowhere z
    left (on j p q z) = on j p (omega arith) z

    right : Sits f b c y → Sits f a c y
    right (nowhere z) = nowhere z
    right (on j p q z) = on j (omega arith) q z

    sits : Dec (x ≤ y) → Sits f a c r
    sits (yes z) = let w : r ≡ x = omega (arith, e) in rw w (left l.sits)
    sits (no z) = let w : r ≡ y = omega (arith, e) in rw w (right m.sits)

one : (f : List ℕ) (a : ℕ) → Lowest f a (a + 1) (get_or f a 0)
one f a = record {
  under = λ j p q. let z : j ≡ a = omega arith in rw z (omega arith);
  sits = on a (omega arith) (omega arith) refl;
}

two_lowest : (f : List ℕ) (a r : ℕ) → r ≡ min (get_or f a 0) (get_or f (a + 1) 0) → Lowest f a (a + 2) r
two_lowest f a r e =
    let z : a + 1 + 1 ≡ a + 2 = omega arith in
    join f a (a + 1) (a + 2) (get_or f a 0) (get_or f (a + 1) 0) r (omega arith) (omega arith) (one f a) (rw z at (one f (a + 1))) e

pub lowest_eight : (f : List ℕ) (from a b c d l h r : ℕ) →
    a ≡ min (get_or f from 0) (get_or f (from + 1) 0) → b ≡ min (get_or f (from + 2) 0) (get_or f (from + 3) 0) →
    c ≡ min (get_or f (from + 4) 0) (get_or f (from + 5) 0) → d ≡ min (get_or f (from + 6) 0) (get_or f (from + 7) 0) →
    l ≡ min a b → h ≡ min c d → r ≡ min l h → Lowest f from (from + 8) r
lowest_eight f from a b c d l h r ea eb ec ed el eh er =
    let two : (k x : ℕ) → x ≡ min (get_or f (from + k) 0) (get_or f (from + (k + 1)) 0) → Lowest f (from + k) (from + (k + 2)) x = λ k x e. pair f from k x e in
    let z : from + 0 ≡ from = omega arith in
    join f from (from + 4) (from + 8) l h r (omega arith) (omega arith)
    (join f from (from + 2) (from + 4) a b l (omega arith) (omega arith) (rw z at (two 0 a (rw z ea))) (two 2 b eb) el)
    (join f (from + 4) (from + 6) (from + 8) c d h (omega arith) (omega arith) (two 4 c ec) (two 6 d ed) eh)
    er
  where
    pair : (f : List ℕ) (from k x : ℕ) → x ≡ min (get_or f (from + k) 0) (get_or f (from + (k + 1)) 0) → Lowest f (from + k) (from + (k + 2)) x
    pair f from k x e =
        let z : from + k + 1 ≡ from + (k + 1) = omega arith in
        let y : from + k + 2 ≡ from + (k + 2) = omega arith in
        rw y at (two_lowest f (from + k) x (rw z e))

-- ---- find_singly

pub record Single (f : List ℕ) (low from n r : ℕ) : Type 0 where
  pub long : length f ≡ 72
  pub few : n ≤ 64
  pub ahead : from ≤ r
  pub other : (j : ℕ) → from ≤ j → j < r → j < n → get_or f j 0 ≡ low → ⊥

pub single_start : (f : List ℕ) (low from n : ℕ) → length f ≡ 72 → n ≤ 64 → Single f low from n from
single_start f low from n b w = record { long = b; few = w; ahead = omega arith; other = λ j x y z. absurd (omega arith) }

module _ (f : List ℕ) (low from n r : ℕ) (i : Single f low from n r) where
  pub single_on : r < n → (get_or f r 0 ≡ low → ⊥) → Single f low from n (r + 1)
  single_on h e = record {
    long = i.long;
    few = i.few;
    ahead = omega (arith, i.ahead);
    other = λ j a b c d. other j a b c d (ℕ_discrete j r);
  }
    where
      other : (j : ℕ) → from ≤ j → j < r + 1 → j < n → get_or f j 0 ≡ low → Dec (j ≡ r) → ⊥
      other j a b c d (yes q) = e (rw q at d)
      other j a b c d (no q) = i.other j a (omega arith) c d

  pub single_here : get_or f r 0 ≡ low → Finds f low from n r
  single_here e = record { other = i.other; found = λ h. e; ahead = i.ahead }

  pub single_done : n ≤ r → Finds f low from n r
  single_done h = record { other = i.other; found = λ k. absurd (omega arith); ahead = i.ahead }

pub ruleset finding_singly = (single_start, single_on, single_here, single_done)

-- ---- skip

pub record Skipping (f : List ℕ) (low from b : ℕ) : Type 0 where
  pub long : length f ≡ 72
  pub skips : Skips f low from b

pub skip_start : (f : List ℕ) (low from : ℕ) → length f ≡ 72 → from ≤ 8 → Skipping f low from from
skip_start f low from l h = record { long = l; skips = record { above = λ j a b. absurd (omega arith); ahead = omega arith; small = h } }

module _ (f : List ℕ) (low from b : ℕ) (i : Skipping f low from b) where
  pub skip_on : b < 8 → low < get_or f (64 + b) 0 → Skipping f low from (b + 1)
  skip_on h l = record {
    long = i.long;
    skips = record { above = λ j x y. above j x y (ℕ_discrete j b); ahead = omega (arith, i.skips.ahead); small = omega arith };
  }
    where
      above : (j : ℕ) → from ≤ j → j < b + 1 → Dec (j ≡ b) → low < get_or f (64 + j) 0
      above j x y (yes q) = rw q l
      above j x y (no q) = i.skips.above j x (omega arith)

  pub skip_done : Skips f low from b
  skip_done = i.skips

pub ruleset skipping = (skip_start, skip_on, skip_done)

-- ---- find

pub record Finding (f : List ℕ) (low from n r : ℕ) : Type 0 where
  pub blocks : Blocks f
  pub few : n ≤ 64
  pub ahead : from ≤ r
  pub other : (j : ℕ) → from ≤ j → j < r → j < n → get_or f j 0 ≡ low → ⊥

pub find_start : (f : List ℕ) (low from n : ℕ) → Blocks f → n ≤ 64 → Finding f low from n from
find_start f low from n b w = record { blocks = b; few = w; ahead = omega arith; other = λ j x y z. absurd (omega arith) }

module _ (f : List ℕ) (low from n r : ℕ) (i : Finding f low from n r) where
  pub find_blocks : Blocks f
  find_blocks = i.blocks

  pub find_long : length f ≡ 72
  find_long = i.blocks.long

  module _ (p : ℕ) (t : Finds f low r (r / 8 * 8 + 8) p) where
    pub find_here : p < r / 8 * 8 + 8 → Finds f low from n p
    find_here h = record { other = λ j a b c d. other j a b c d (dec_le r j); found = λ k. t.found h; ahead = omega (arith, t.ahead, i.ahead) }
      where
        other : (j : ℕ) → from ≤ j → j < p → j < n → get_or f j 0 ≡ low → Dec (r ≤ j) → ⊥
        other j a b c d (yes q) = t.other j q b (omega arith) d
        other j a b c d (no q) = i.other j a (omega arith) c d

    pub find_on : r < n → r / 8 * 8 + 8 ≤ p → (b : ℕ) → Skips f low (r / 8 + 1) b → Finding f low from n (b * 8)
    find_on h l b k = record {
      blocks = i.blocks;
      few = i.few;
      ahead = omega (arith, i.ahead, k.ahead);
      other = λ j x y z d. other j x y z d (dec_le r j) (dec_le (r / 8 * 8 + 8) j);
    }
      where
        other : (j : ℕ) → from ≤ j → j < b * 8 → j < n → get_or f j 0 ≡ low → Dec (r ≤ j) → Dec (r / 8 * 8 + 8 ≤ j) → ⊥
        other j x y z d (no q) e = i.other j x (omega arith) z d
        other j x y z d (yes q) (no e) = t.other j q (omega arith) (omega arith) d
        other j x y z d (yes q) (yes e) =
            let w = k.above (j / 8) (omega arith) (omega arith) in
            let u = (i.blocks.lows (j / 8) (omega (arith, i.few))).under j (omega arith) (omega arith) in
            omega (arith, w, u, d)

  pub find_done : n ≤ r → Finds f low from n r
  find_done h = record { other = i.other; found = λ k. absurd (omega arith); ahead = i.ahead }

pub ruleset finding = (find_start, find_blocks, find_long, find_here, find_on, find_done)

-- ---- settle

lowest_same : (f g : List ℕ) (a b m : ℕ) → ((j : ℕ) → a ≤ j → j < b → get_or g j 0 ≡ get_or f j 0) → Lowest f a b m → Lowest g a b m
lowest_same f g a b m h l = record { under = λ j x y. rw (h j x y) (l.under j x y); sits = sits l.sits }
  where
    sits : Sits f a b m → Sits g a b m
    sits (nowhere e) = nowhere e
    sits (on j x y e) = on j x y (h j x y ∙ e)

module _ (f : List ℕ) (r v : ℕ) (bs : Blocks f) (h : r < 64) where
  pub settle_long : length (set f r v) ≡ 72
  settle_long = length-set f r v ∙ bs.long

  pub settle_done : (m : ℕ) → Lowest (set f r v) (r / 8 * 8) (r / 8 * 8 + 8) m → Settled f (set (set f r v) (64 + r / 8) m) r v
  settle_done m l = record {
    blocks = record { long = long; lows = λ b q. lows b q (ℕ_discrete b (r / 8)) };
    same_long = long ∙ sym bs.long;
    here = below r h ∙ get_or-set_same f r v 0 (omega (arith, bs.long));
    others = λ j q d. below j q ∙ get_or-set_other f r j v 0 d;
  }
    where
      g : List ℕ
      g = set f r v

      o : List ℕ
      o = set (set f r v) (64 + r / 8) m

      long : length (set (set f r v) (64 + r / 8) m) ≡ 72
      long = length-set (set f r v) (64 + r / 8) m ∙ settle_long

      below : (j : ℕ) → j < 64 → get_or (set (set f r v) (64 + r / 8) m) j 0 ≡ get_or (set f r v) j 0
      below j q = get_or-set_other (set f r v) (64 + r / 8) j m 0 (λ d. omega arith)

      lows : (b : ℕ) → b < 8 → Dec (b ≡ r / 8) →
          Lowest (set (set f r v) (64 + r / 8) m) (8 * b) (8 * b + 8) (get_or (set (set f r v) (64 + r / 8) m) (64 + b) 0)
      lows b q (yes d) =
          let z : r / 8 * 8 ≡ 8 * (r / 8) = omega arith in
          let w : get_or (set (set f r v) (64 + r / 8) m) (64 + r / 8) 0 ≡ m = get_or-set_same (set f r v) (64 + r / 8) m 0 (omega (arith, settle_long)) in
          rw (d, w) (lowest_same (set f r v) (set (set f r v) (64 + r / 8) m) (8 * (r / 8)) (8 * (r / 8) + 8) m (λ j x y. below j (omega arith)) (rw z at l))
      lows b q (no d) =
          let w : get_or (set (set f r v) (64 + r / 8) m) (64 + b) 0 ≡ get_or f (64 + b) 0 =
          get_or-set_other (set f r v) (64 + r / 8) (64 + b) m 0 (λ e. d (omega arith)) ∙ get_or-set_other f r (64 + b) v 0 (λ e. omega arith) in
          rw w (lowest_same f (set (set f r v) (64 + r / 8) m) (8 * b) (8 * b + 8) (get_or f (64 + b) 0)
          (λ j x y. below j (omega arith) ∙ get_or-set_other f r j v 0 (λ e. d (omega arith))) (bs.lows b q))

pub ruleset settling = (settle_long, settle_done)

-- ---- the lowest of all

module _ (f : List ℕ) (low : ℕ) (bs : Blocks f) (l : Lowest f 64 72 low) where
  pub all_under : (r : ℕ) → r < 64 → low ≤ get_or f r 0
  all_under r h =
      let z : 64 + r / 8 < 72 = omega arith in
      omega (arith, l.under (64 + r / 8) (omega arith) z, (bs.lows (r / 8) (omega arith)).under r (omega arith) (omega arith))

  pub all_sits : (low ≡ top → ⊥) → Sits f 0 64 low
  all_sits n = go l.sits
    where
      inner : (j : ℕ) → j < 8 → get_or f (64 + j) 0 ≡ low → Sits f (8 * j) (8 * j + 8) (get_or f (64 + j) 0) → Sits f 0 64 low
      inner j h e (nowhere q) = absurd (n (sym e ∙ q))
      inner j h e (on i a b q) = on i (omega arith) (omega arith) (q ∙ e)

      go : Sits f 64 72 low → Sits f 0 64 low
      go (nowhere q) = absurd (n q)
      go (on j a b q) =
          let z : 64 + (j - 64) ≡ j = omega arith in
          let w : get_or f (64 + (j - 64)) 0 ≡ low = rw z q in
          inner (j - 64) (omega arith) w (bs.lows (j - 64) (omega arith)).sits
