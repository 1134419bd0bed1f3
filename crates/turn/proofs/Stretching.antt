-- Laws of the run of a delta's items below a bound.
use Prim.Native.Nat.{ℕ, ◌+◌, ◌*◌, ◌-◌, ◌/◌, ◌%◌, ◌^◌, ◌<◌, ◌≤◌}
use mathlib.Core.Path.{◌≡◌, refl, sym, ap, subst, ◌∙◌}
use mathlib.Core.List.{[], ◌∷◌, ◌++◌, append_assoc}
use mathlib.Core.Bool.{Bool, true, false, cond}
use native.Mathlib.Omega.{arith}
use mir.Syntax.{w8, w64}
use mir.Val.{Fits, bool_byte}
use borrow.Author.Tests.{eq-eqb, ne_eqb}
use lib.ListN.{length, get_or, take, drop, length-append, length-drop}
use lib.Seq.{take_at}
use Rattle.order.specs.Map.{Item, All}
use Rattle.order.proofs.Map.{all_append}
use Rattle.change.specs.Change.{Change, announce, withdraw, update}
use Rattle.change.specs.Difference as change
use Rattle.number.specs.Number.{two_at, word_at}
use Rattle.number.specs.Bytes.{AllBytes}
use Rattle.body.specs.declared.tag.Form.{Form}
use Rattle.body.specs.declared.tag.Form.TheVariants.{Delta}
use Rattle.body.specs.Tag.{kind_of, tag_of, good_body}
use Rattle.body.proofs.Digits.{delta_kind}
use Rattle.body.proofs.Sizes.{origin_size, body_size}
use Rattle.field.specs.Cells.{Cell, cell_bytes}
use Rattle.field.proofs.Common.{Found}
use Rattle.payload.specs.Content.{Bytes, entry_of, cell_for, digit}
use Rattle.payload.specs.Payload.{changes, encode}
use Rattle.payload.specs.Count.{is_withdrawn, announces, withdraws, sum_of}
use Rattle.payload.proofs.Back.{says_back}
use Rattle.payload.proofs.Counts.{agree_withdrawn}
use Rattle.payload.proofs.Faithful.{run_back}
use Rattle.item.specs.declared.reading.Reading.TheVariants.{Changes}
use Rattle.item.specs.Front.{front_key, front_in}
use Rattle.item.specs.Reading.{Ready}
use Rattle.item.specs.Write.{field_as, writes}
use Rattle.item.proofs.Fronts.{drop_bytes, take_bytes}
use Rattle.item.proofs.Heres.{here, cell, next, said, behind, within, lies, front_is}
use Rattle.turn.specs.Stretch.{front_at, gone_of, Stretches}

abbrev D : Type 0
D = change.Delta Bytes Bytes

-- ---- change_front

pub front_at_lem : (s : Bytes) (at c v : ℕ) → c ≡ word_at s (at + 3) → v ≡ front_in (get_or s at 0 / 16) c → v ≡ front_at s at
unfolding front_at
front_at_lem s at c v e q = q ∙ rw e

pub ruleset fronts_at = (front_at_lem)

-- ---- withdraws

gone_byte : (tag : ℕ) → bool_byte (is_withdrawn tag) ≡ gone_of tag
unfolding gone_of
gone_byte tag = go (is_withdrawn tag)
  where
    go : (b : Bool) → bool_byte b ≡ cond b 1 0
    go true = refl
    go false = refl

pub gone_low : (tag k : ℕ) → k ≡ gone_of tag → k ≤ 1
unfolding gone_of
gone_low tag k e = rw e (go (is_withdrawn tag))
  where
    go : (t : Bool) → cond t 1 0 ≤ 1
    go true = omega arith
    go false = omega arith

-- ---- change_size

module _ (s : Bytes) (at : ℕ) (r : Ready Changes s at) (h : at < length s) where
  abbrev f : Found Delta s at
  f = here Delta s at r.good h

  pub size_announced : get_or s at 0 ≡ 0x11 → 26 ≡ 3 + two_at s (at + 1)
  unfolding good_body tag_of
  size_announced e =
      let t : f.tag ≡ 0x11 = sym f.is ∙ e in
      omega (arith, f.size, origin_size f.body (rw t at f.good))

  pub size_withdrawn : get_or s at 0 ≡ 0x12 → 26 ≡ 3 + two_at s (at + 1)
  unfolding good_body tag_of
  size_withdrawn e =
      let t : f.tag ≡ 0x12 = sym f.is ∙ e in
      omega (arith, f.size, origin_size f.body (rw t at f.good))

pub ruleset change_sizes = (size_announced, size_withdrawn)

-- ---- seek_changes

one_counts : (c : Change Bytes) → announces c ≡ 1 - withdraws c
one_counts (announce n) = refl
one_counts (withdraw p) = refl
one_counts (update p n) = refl

pub writes_append : (form : Form) (e f : D) → writes form (e ++ f) ≡ writes form e ++ writes form f
unfolding cell_bytes
writes_append form [] f = refl
writes_append form (x ∷ e) f = ap (λ (s : Bytes). field_as form x ++ s) (writes_append form e f) ∙ sym (append_assoc (field_as form x) (writes form e) (writes form f))

pub sum_append : (g : Change Bytes → ℕ) (e f : D) → sum_of g (e ++ f) ≡ sum_of g e + sum_of g f
sum_append g [] f = omega arith
sum_append g (x ∷ e) f = omega (arith, sum_append g e f)

pub record Stretching (s : Bytes) (from bound at announced withdrawn : ℕ) : Type 0 where
  pub passed : D
  pub split : changes (drop from s) ≡ passed ++ changes (drop at s)
  pub low : All (λ (x : Item Bytes (Change Bytes)). front_key x.key < bound) passed
  pub announced_is : sum_of announces passed ≡ announced
  pub withdrawn_is : sum_of withdraws passed ≡ withdrawn
  pub number : announced + withdrawn ≡ length passed
  pub short : at ≤ from + 40_000 * length passed
  pub few : announced + withdrawn + from ≤ at
  pub start : Ready Changes s from
  pub ready : Ready Changes s at

pub stretch_start : (s : Bytes) (from bound : ℕ) → Ready Changes s from → Stretching s from bound from 0 0
stretch_start s from bound r = record {
  passed = [];
  split = refl;
  low = tt;
  announced_is = refl;
  withdrawn_is = refl;
  number = refl;
  short = omega arith;
  few = omega arith;
  start = r;
  ready = r;
}

module _ (s : Bytes) (from bound at announced withdrawn : ℕ) (l : Stretching s from bound at announced withdrawn) where
  pub stretch_ready : Ready Changes s at
  stretch_ready = l.ready

  module _ (h : 11 ≤ length s - at) where
    pub stretch_in : at < length s
    stretch_in = omega arith

    pub stretch_word : at + 11 ≤ length s
    stretch_word = omega arith

    abbrev g : Found Delta s at
    g = here Delta s at l.ready.good stretch_in

    abbrev item : Item Bytes (Change Bytes)
    item = entry_of Delta (cell Delta s at l.ready.good stretch_in)

    pub stretch_size : (n : ℕ) → n ≡ 3 + two_at s (at + 1) → at + n ≤ length s
    stretch_size n e = omega (arith, e, g.size, within Delta s at l.ready.good stretch_in)

    pub stretch_less : (n : ℕ) → n ≡ 3 + two_at s (at + 1) → length s - (at + n) < length s - at
    stretch_less n e = omega arith

    pub stretch_announced : Fits w64 (length s) → (n : ℕ) → announced + (1 - n) < 2 ^ 64
    stretch_announced w n = omega (arith, l.few, w.fits)

    pub stretch_withdrawn : Fits w64 (length s) → (n : ℕ) → n ≡ gone_of (get_or s at 0) → withdrawn + n < 2 ^ 64
    stretch_withdrawn w n e = omega (arith, l.few, w.fits, gone_low (get_or s at 0) n e)

    module _ (o : (i : ℕ) → Fits w8 (get_or s i 0)) where
      octets : AllBytes g.body
      octets = subst AllBytes (sym (lies Delta s at l.ready.good stretch_in)) (take_bytes (length g.body) (drop (at + 3) s) (drop_bytes (at + 3) s (λ i. (o i).fits)))

      -- the tag says whether the item withdraws
      gone_is : gone_of (get_or s at 0) ≡ withdraws item.val
      unfolding gone_of
      gone_is =
          let b : cell_for Delta item ≡ cell Delta s at l.ready.good stretch_in = says_back Delta g.tag g.body octets g.good in
          let t : get_or item.key 0 0 * 16 + digit item.val ≡ get_or s at 0 = ap (λ (c : Cell). c.tag) b ∙ sym g.is in
          ap (λ (n : ℕ). cond (is_withdrawn n) 1 0) (sym t) ∙ agree_withdrawn (get_or item.key 0 0) item.val

      pub stretch_more : (v : ℕ) → v ≡ front_at s at → v < bound → (b : Bool) → b ≡ is_withdrawn (get_or s at 0) → (k : ℕ) → k ≡ bool_byte b → (n : ℕ) → n ≡ 3 + two_at s (at + 1) →
          Stretching s from bound (at + n) (announced + (1 - k)) (withdrawn + k)
      unfolding front_at
      stretch_more v e q b eb k eq n d =
          let ek : k ≡ gone_of (get_or s at 0) = eq ∙ ap bool_byte eb ∙ gone_byte (get_or s at 0) in
          let z : at + n ≡ next Delta s at l.ready.good stretch_in = omega (arith, d, g.size) in
          let y : get_or s at 0 / 16 ≡ kind_of Delta g.tag = ap (λ (x : ℕ). x / 16) g.is ∙ sym (delta_kind g.tag g.body g.good) in
          let w : v ≡ front_key item.key = e ∙ rw y (sym (front_is Delta s at l.ready.good stretch_in o (omega arith))) in
          let u : k ≡ withdraws item.val = ek ∙ gone_is in
          let k1 : k ≤ 1 = gone_low (get_or s at 0) k ek in
          let a : 1 - k ≡ announces item.val = ap (λ (x : ℕ). 1 - x) u ∙ sym (one_counts item.val) in
          let m : length (l.passed ++ (item ∷ [])) ≡ length l.passed + 1 = length-append l.passed (item ∷ []) in
          record {
            passed = l.passed ++ (item ∷ []);
            split =
                l.split ∙ ap (λ (x : D). l.passed ++ x) (said Delta s at l.ready.good stretch_in)
                ∙ rw z (sym (append_assoc l.passed (item ∷ []) (changes (drop (next Delta s at l.ready.good stretch_in) s))));
            low = all_append (λ (x : Item Bytes (Change Bytes)). front_key x.key < bound) l.passed (item ∷ []) l.low (rw w at q, tt);
            announced_is = sum_append announces l.passed (item ∷ []) ∙ omega (arith, a, l.announced_is);
            withdrawn_is = sum_append withdraws l.passed (item ∷ []) ∙ omega (arith, u, l.withdrawn_is);
            number = omega (arith, m, k1, l.number);
            short = omega (arith, m, l.short, d, g.size, body_size Delta g.tag g.body g.good);
            few = omega (arith, l.few, d, k1);
            start = l.start;
            ready = rw z (record { good = behind Delta s at l.ready.good stretch_in; within = within Delta s at l.ready.good stretch_in });
          }

  module _ (o : (i : ℕ) → Fits w8 (get_or s i 0)) where
    abbrev written : Bytes
    written = writes Delta l.passed

    run_bytes : (i : ℕ) → Ready Changes s i → writes Delta (changes (drop i s)) ≡ drop i s
    unfolding encode
    run_bytes i r = run_back Delta r.good.run (drop_bytes i s (λ x. (o x).fits))

    whole : written ++ drop at s ≡ drop from s
    whole =
        ap (λ (b : Bytes). written ++ b) (sym (run_bytes at l.ready)) ∙ sym (writes_append Delta l.passed (changes (drop at s)))
        ∙ ap (writes Delta) (sym l.split) ∙ run_bytes from l.start

    size : length written ≡ at - from
    size =
        let z : length written + length (drop at s) ≡ length (drop from s) = sym (length-append written (drop at s)) ∙ ap length whole in
        omega (arith, z, length-drop at s, length-drop from s, l.few, l.ready.within, l.start.within)

    pub stretch_done : Stretches s from bound at announced withdrawn
    stretch_done = record {
      passed = l.passed;
      split = l.split;
      low = l.low;
      lies = sym (ap (take (at - from)) (sym whole) ∙ take_at written (drop at s) (at - from) size);
      announced_is = l.announced_is;
      withdrawn_is = l.withdrawn_is;
      number = l.number;
      short = l.short;
      on = omega (arith, l.few);
      ready = l.ready;
    }

pub ruleset stretching = (gone_low, stretch_start, stretch_ready, stretch_in, stretch_word, stretch_size, stretch_less, stretch_announced, stretch_withdrawn, stretch_more, stretch_done)
