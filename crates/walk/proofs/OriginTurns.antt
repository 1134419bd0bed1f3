-- Laws of the merge of two deltas while both have origins.
use Prim.Native.Nat.{ℕ, suc, ◌+◌, ◌-◌, ◌<◌, ◌≤◌}
use mathlib.Core.Path.{◌≡◌, refl, sym, ap, ap₂, subst, ◌∙◌}
use mathlib.Core.List.{[], ◌∷◌, ◌++◌, append-nil}
use mathlib.Core.Bool.{Bool, true, false, not, cond, false≢true}
use native.Mathlib.Omega.{arith}
use borrow.Author.Tests.{eq-eqb, ne_eqb, eqb-true, not-false}
use mir.Syntax.{w8}
use mir.Val.{Fits}
use lib.Dec.{eqb}
use lib.ListN.{length, get_or, take, drop, length-take, length-drop}
use lib.Seq.{sets, take_at, drop-cons, length-sets}
use Rattle.std.specs.declared.cmp.Ordering.{Ordering}
use Rattle.std.specs.declared.cmp.Ordering.TheVariants.{Less, Equal, Greater}
use Rattle.order.specs.Comparison.{bytes, number}
use Rattle.order.specs.Map.{Item}
use Rattle.order.specs.Walk.{emit}
use Rattle.order.proofs.Comparison.{number_equal}
use Rattle.order.proofs.Walk.{walk_less, walk_equal, walk_greater}
use Rattle.change.specs.Change.{Change, announce, withdraw}
use Rattle.change.specs.Difference as change
use Rattle.change.specs.Merge.{table, merge_at, merge}
use Rattle.number.specs.Bytes.{part, AllBytes}
use Rattle.body.specs.declared.tag.Form.TheVariants.{Delta}
use Rattle.body.specs.Origin.{good_origin}
use Rattle.body.specs.Tag.{tag_of, kind_of, good_body}
use Rattle.body.proofs.Sizes.{origin_size}
use Rattle.field.specs.Key.{key_of}
use Rattle.field.specs.Cells.{Cell, field, cell_bytes}
use Rattle.field.specs.If.{If}
use Rattle.field.proofs.Common.{Found}
use Rattle.field.proofs.Encode.{field_front}
use Rattle.payload.specs.Content.{Bytes, entry_of}
use Rattle.payload.specs.Payload.{changes}
use Rattle.payload.specs.Count.{announces, withdraws, sum_of}
use Rattle.payload.proofs.Back.{says_back}
use Rattle.item.specs.declared.sink.Counts.{Counts}
use Rattle.item.specs.declared.reading.Reading.TheVariants.{Changes}
use Rattle.item.specs.Reading.{Ready}
use Rattle.item.specs.Write.{cell_as, writes, plus_all}
use Rattle.item.proofs.Fronts.{drop_bytes, take_bytes}
use Rattle.turn.specs.Left.{left_of}
use Rattle.walk.specs.Walk.{Stands, Wrote}
use Rattle.walk.specs.Origins.{origin_of, OriginAt, OriginCountable, both_origins, BothAt, Turns, OriginStepIs}
use Rattle.item.proofs.Heres.{here, cell, next, reads, said, behind, within, lies}
use Rattle.walk.proofs.Walking.{plus_nil, writes_nil, then}
use Rattle.walk.specs.declared.pass.Stand.{Stand}
use Rattle.std.specs.Prelude.{None, Option, Some}

-- ---- origin_at

-- a no decides nothing
pub no_origin : (s : Bytes) (at : ℕ) → If false (OriginAt s at)
no_origin s at = record { holds = λ e. absurd (false≢true e) }

-- an origin's field as an item
origin_item : (tag : ℕ) (b : Bytes) → (t : Bool) → eqb tag 0x11 ≡ t → cond t 0x11 0x12 ≡ tag → entry_of Delta (record { tag = tag; body = b }) ≡ record { key = 1 ∷ b; val = cond t (announce []) (withdraw []) }
unfolding tag_of kind_of key_of
origin_item tag b true e d = rw (← d)
origin_item tag b false e d = rw (← d)

origin_good : (tag : ℕ) (b : Bytes) → (t : Bool) → cond t 0x11 0x12 ≡ tag → good_body Delta tag b ≡ true → good_origin b ≡ true
unfolding tag_of good_body
origin_good tag b true d g = rw (← d) at g
origin_good tag b false d g = rw (← d) at g

module _ (s : Bytes) (at : ℕ) (r : Ready Changes s at) (o : (i : ℕ) → Fits w8 (get_or s i 0)) (h : 26 ≤ length s - at) where
  inside : at < length s
  inside = omega arith

  abbrev f : Found Delta s at
  f = here Delta s at r.good inside

  module _ (k : cond (eqb (get_or s at 0) 0x11) 0x11 0x12 ≡ get_or s at 0) where
    abbrev t : Bool
    t = eqb (get_or s at 0) 0x11

    tag_is : get_or s at 0 ≡ f.tag
    tag_is = f.is

    size : length f.body ≡ 23
    size = origin_size f.body (origin_good f.tag f.body t (k ∙ tag_is) f.good)

    body_is : f.body ≡ part s (at + 3) (at + 26)
    body_is =
        let z : at + 26 - (at + 3) ≡ 23 = omega arith in
        lies Delta s at r.good inside ∙ rw (size, z)

    next_is : next Delta s at r.good inside ≡ at + 26
    next_is = omega (arith, size)

    item_is : entry_of Delta (cell Delta s at r.good inside) ≡ origin_of s at
    item_is =
        origin_item f.tag f.body t (ap (λ (x : ℕ). eqb x 0x11) (sym tag_is)) (k ∙ tag_is)
        ∙ ap (λ (b : Bytes). record { key = 1 ∷ b; val = cond t (announce []) (withdraw []) }) body_is

    low_is : get_or s (at + 2) 0 ≡ 23
    low_is = let z : at + 1 + 1 ≡ at + 2 = omega arith in let e = rw z at f.size in omega (arith, e, size, (o (at + 2)).fits)

    lies_is : writes Delta (origin_of s at ∷ []) ≡ take 26 (drop at s)
    unfolding cell_bytes field
    lies_is =
        let ob : AllBytes f.body = subst AllBytes (sym (lies Delta s at r.good inside)) (take_bytes (length f.body) (drop (at + 3) s) (drop_bytes (at + 3) s (λ i. (o i).fits))) in
        let c : Cell = cell Delta s at r.good inside in
        let p : cell_as Delta (entry_of Delta c) ≡ c = says_back Delta f.tag f.body ob f.good in
        let q : drop at s ≡ field f.tag f.body ++ drop (next Delta s at r.good inside) s
        = field_front (drop at s) f.tag f.body (drop (next Delta s at r.good inside) s) (drop_bytes at s (λ i. (o i).fits)) (reads Delta s at r.good inside) in
        let n : length (field f.tag f.body) ≡ 26 = omega (arith, size) in
        ap (λ (x : Item Bytes (Change Bytes)). writes Delta (x ∷ [])) (sym item_is)
        ∙ ap (λ (x : Cell). field x.tag x.body ++ []) p
        ∙ append-nil (field f.tag f.body)
        ∙ sym (ap (take 26) q ∙ take_at (field f.tag f.body) (drop (next Delta s at r.good inside) s) 26 n)

    origin : OriginAt s at
    origin = record {
      within = omega arith;
      tag = k;
      low = low_is;
      is = said Delta s at r.good inside ∙ ap₂ (λ (x : Item Bytes (Change Bytes)) (n : ℕ). x ∷ changes (drop n s)) item_is next_is;
      lies = lies_is;
      next = rw (← next_is) (record { good = behind Delta s at r.good inside; within = within Delta s at r.good inside });
    }

  pub origin_new : get_or s at 0 ≡ 0x11 → If true (OriginAt s at)
  origin_new e = record { holds = λ z. origin (rw (eq-eqb (get_or s at 0) 0x11 e) (sym e)) }

  pub origin_gone : (get_or s at 0 ≡ 0x11 → ⊥) → If (eqb (get_or s at 0) 0x12) (OriginAt s at)
  origin_gone n = record { holds = λ z. origin (rw (ne_eqb (get_or s at 0) 0x11 n) (sym (eqb-true (get_or s at 0) 0x12 z))) }

pub ruleset origins_at = (no_origin, origin_new, origin_gone)

-- ---- both_at

module _ (a : Bytes) (i : ℕ) (b : Bytes) (j : ℕ) (r : Bool) (f : If r (OriginAt a i)) where
  pub both_not : If false (BothAt a i b j)
  both_not = record { holds = λ e. absurd (false≢true e) }

  pub both_yes : not r ≡ false → (s : Bool) → If s (OriginAt b j) → If s (BothAt a i b j)
  both_yes e s g = record { holds = λ z. record { left = f.holds (not-false r e); right = g.holds z } }

pub ruleset both = (both_not, both_yes)

-- ---- origin_compare

-- an origin with the lower byte of its length in front
fronted : (s : Bytes) (at : ℕ) → OriginAt s at → part s (at + 2) (at + 26) ≡ 23 ∷ part s (at + 3) (at + 26)
fronted s at x =
    let z : at + 26 - (at + 2) ≡ suc (at + 26 - (at + 3)) = omega arith in
    let y : suc (at + 2) ≡ at + 3 = omega arith in
    let w : at + 2 < length s = let v = x.within in omega arith in
    rw (z, drop-cons s (at + 2) 0 w, x.low, y)

module _ (a : Bytes) (i : ℕ) (b : Bytes) (j : ℕ) (z : BothAt a i b j) where
  pub compared : (r : Ordering) → r ≡ bytes (part a (i + 2) (i + 26)) (part b (j + 2) (j + 26)) → r ≡ bytes (origin_of a i).key (origin_of b j).key
  compared r e =
      let m : number 23 23 ≡ Equal = number_equal 23 23 refl in
      let n : number 1 1 ≡ Equal = number_equal 1 1 refl in
      e ∙ ap₂ bytes (fronted a i z.left) (fronted b j z.right)

  pub compared_left : i + 26 ≤ length a
  compared_left = z.left.within

  pub compared_right : j + 26 ≤ length b
  compared_right = z.right.within

pub ruleset comparing = (compared, compared_left, compared_right)

-- ---- put_origin

module _ (s : Bytes) (at : ℕ) (x : OriginAt s at) where
  pub origin_in : at < length s
  origin_in = let w = x.within in omega arith

  written_size : length (writes Delta (origin_of s at ∷ [])) ≡ 26
  written_size = ap length x.lies ∙ simp (length-take, length-drop) (let w = x.within in omega arith)

-- ---- put_same

module _ (a : Bytes) (i : ℕ) (b : Bytes) (j : ℕ) (c : Counts) (u : Turns a i b j c) where
  pub turns_both : BothAt a i b j
  turns_both = u.both

  pub turns_left : OriginAt a i
  turns_left = u.both.left

  pub turns_right : OriginAt b j
  turns_right = u.both.right

  pub turns_room : OriginCountable c
  turns_room = u.room

  pub same_in_a : i < length a
  same_in_a = origin_in a i u.both.left

  pub same_in_b : j < length b
  same_in_b = origin_in b j u.both.right

module _ (a : Bytes) (i : ℕ) (b : Bytes) (j : ℕ) where
  module _ (n : get_or a i 0 ≡ get_or b j 0 → ⊥) where
    apart : both_origins a i b j ≡ []
    apart = ap (λ (t : Bool). cond t (origin_of a i ∷ []) []) (ne_eqb (get_or a i 0) (get_or b j 0) n)

    pub apart_counts : (c : Counts) → c ≡ plus_all Delta c (both_origins a i b j)
    apart_counts c = plus_nil Delta c ∙ ap (plus_all Delta c) (sym apart)

    pub apart_bytes : (o : Bytes) (m : ℕ) → o ≡ sets o m (writes Delta (both_origins a i b j))
    apart_bytes o m = writes_nil Delta o m ∙ ap (λ (d : change.Delta Bytes Bytes). sets o m (writes Delta d)) (sym apart)

  module _ (e : get_or a i 0 ≡ get_or b j 0) where
    alike : both_origins a i b j ≡ origin_of a i ∷ []
    alike = ap (λ (t : Bool). cond t (origin_of a i ∷ []) []) (eq-eqb (get_or a i 0) (get_or b j 0) e)

    pub alike_counts : (c r : Counts) → r ≡ plus_all Delta c (origin_of a i ∷ []) → r ≡ plus_all Delta c (both_origins a i b j)
    alike_counts c r q = q ∙ ap (plus_all Delta c) (sym alike)

    pub alike_bytes : (o p : Bytes) (m : ℕ) → p ≡ sets o m (writes Delta (origin_of a i ∷ [])) → p ≡ sets o m (writes Delta (both_origins a i b j))
    alike_bytes o p m q = q ∙ ap (λ (d : change.Delta Bytes Bytes). sets o m (writes Delta d)) (sym alike)

pub ruleset same = (turns_left, turns_room, same_in_a, same_in_b, apart_counts, apart_bytes, alike_counts, alike_bytes)

-- ---- origin_turn

abbrev left_of_lem : Bytes → ℕ → Bytes → ℕ → change.Delta Bytes Bytes
left_of_lem a i b j = left_of Changes a i Changes b j

few_new : (s : Bytes) (at : ℕ) → (announces (origin_of s at).val ≤ 1) × (withdraws (origin_of s at).val ≤ 1)
few_new s at = go (eqb (get_or s at 0) 0x11)
  where
    go : (t : Bool) → (announces (cond t (announce []) (withdraw [])) ≤ 1) × (withdraws (cond t (announce []) (withdraw [])) ≤ 1)
    go true = (omega arith, omega arith)
    go false = (omega arith, omega arith)

-- what is left of two origins with one key
both_left : (a : Bytes) (i : ℕ) (b : Bytes) (j : ℕ) → OriginAt a i → OriginAt b j → (d : change.Delta Bytes Bytes)
    → emit (origin_of a i).key (table bytes (origin_of a i).val (origin_of b j).val) d ≡ both_origins a i b j ++ d
both_left a i b j x y d = go (eqb (get_or a i 0) 0x11) (eqb (get_or b j 0) 0x11) x.tag y.tag
  where
    go : (s t : Bool) → cond s 0x11 0x12 ≡ get_or a i 0 → cond t 0x11 0x12 ≡ get_or b j 0
        → emit (origin_of a i).key (table bytes (cond s (announce []) (withdraw [])) (cond t (announce []) (withdraw []))) d
        ≡ cond (eqb (get_or a i 0) (get_or b j 0)) (record { key = (origin_of a i).key; val = cond s (announce []) (withdraw []) } ∷ []) [] ++ d
    go true true p q = rw (← p, ← q)
    go true false p q = rw (← p, ← q)
    go false true p q = rw (← p, ← q)
    go false false p q = rw (← p, ← q)

module _ (a : Bytes) (i : ℕ) (b : Bytes) (j : ℕ) (c : Counts) (u : Turns a i b j c) (r : Ordering)
    (e : r ≡ bytes (origin_of a i).key (origin_of b j).key) (c' : Counts) (o o' : Bytes) where
  x : OriginAt a i
  x = u.both.left

  y : OriginAt b j
  y = u.both.right

  module _ (d : r ≡ Less) (ec : c' ≡ plus_all Delta c (origin_of a i ∷ [])) (eo : o' ≡ sets o c.len (writes Delta (origin_of a i ∷ []))) where
    less_left : left_of_lem a i b j ≡ origin_of a i ∷ left_of_lem a (i + 26) b j
    less_left =
        ap₂ (merge bytes bytes) x.is y.is
        ∙ walk_less bytes (merge_at bytes) (origin_of a i) (changes (drop (i + 26) a)) (origin_of b j) (changes (drop (j + 26) b)) (sym e ∙ d)
        ∙ ap (λ (l : change.Delta Bytes Bytes). origin_of a i ∷ merge bytes bytes (changes (drop (i + 26) a)) l) (sym y.is)

    pub turn_less : OriginStepIs a i b j c o o' (Some (record { left = i + 26; right = j; counts = c' }))
    turn_less =
        let n = few_new a i in
        record {
          is = (
            record {
              written = origin_of a i ∷ [];
              is = less_left;
              counts = ec;
              laid = eo;
              short = omega (arith, written_size a i x);
              announced = omega (arith, n.0);
              withdrawn = omega (arith, n.1);
              ready_a = x.next;
              ready_b = u.ready_b;
              on_a = omega arith;
              on_b = omega arith;
            },
            omega arith,
          );
        }

  module _ (d : r ≡ Greater) (ec : c' ≡ plus_all Delta c (origin_of b j ∷ [])) (eo : o' ≡ sets o c.len (writes Delta (origin_of b j ∷ []))) where
    greater_left : left_of_lem a i b j ≡ origin_of b j ∷ left_of_lem a i b (j + 26)
    greater_left =
        ap₂ (merge bytes bytes) x.is y.is
        ∙ walk_greater bytes (merge_at bytes) (origin_of a i) (changes (drop (i + 26) a)) (origin_of b j) (changes (drop (j + 26) b)) (sym e ∙ d)
        ∙ ap (λ (l : change.Delta Bytes Bytes). origin_of b j ∷ merge bytes bytes l (changes (drop (j + 26) b))) (sym x.is)

    pub turn_greater : OriginStepIs a i b j c o o' (Some (record { left = i; right = j + 26; counts = c' }))
    turn_greater =
        let n = few_new b j in
        record {
          is = (
            record {
              written = origin_of b j ∷ [];
              is = greater_left;
              counts = ec;
              laid = eo;
              short = omega (arith, written_size b j y);
              announced = omega (arith, n.0);
              withdrawn = omega (arith, n.1);
              ready_a = u.ready_a;
              ready_b = y.next;
              on_a = omega arith;
              on_b = omega arith;
            },
            omega arith,
          );
        }

  module _ (d : r ≡ Equal) (ec : c' ≡ plus_all Delta c (both_origins a i b j)) (eo : o' ≡ sets o c.len (writes Delta (both_origins a i b j))) where
    equal_left : left_of_lem a i b j ≡ both_origins a i b j ++ left_of_lem a (i + 26) b (j + 26)
    equal_left =
        ap₂ (merge bytes bytes) x.is y.is
        ∙ walk_equal bytes (merge_at bytes) (origin_of a i) (changes (drop (i + 26) a)) (origin_of b j) (changes (drop (j + 26) b)) (sym e ∙ d)
        ∙ both_left a i b j x y (left_of_lem a (i + 26) b (j + 26))

    record Small : Type 0 where
      len : length (writes Delta (both_origins a i b j)) ≤ 26
      announced : sum_of announces (both_origins a i b j) ≤ 1
      withdrawn : sum_of withdraws (both_origins a i b j) ≤ 1

    small : Small
    unfolding cell_bytes
    small = go (eqb (get_or a i 0) (get_or b j 0)) refl
      where
        go : (t : Bool) → eqb (get_or a i 0) (get_or b j 0) ≡ t → Small
        go true q = let n = few_new a i in record { len = rw q (omega (arith, written_size a i x)); announced = rw q (omega (arith, n.0)); withdrawn = rw q (omega (arith, n.1)) }
        go false q = record { len = rw q (omega arith); announced = rw q (omega arith); withdrawn = rw q (omega arith) }

    pub turn_equal : OriginStepIs a i b j c o o' (Some (record { left = i + 26; right = j + 26; counts = c' }))
    turn_equal =
        let n = small in
        record {
          is = (
            record {
              written = both_origins a i b j;
              is = equal_left;
              counts = ec;
              laid = eo;
              short = omega (arith, n.len);
              announced = omega (arith, n.announced);
              withdrawn = omega (arith, n.withdrawn);
              ready_a = x.next;
              ready_b = y.next;
              on_a = omega arith;
              on_b = omega arith;
            },
            omega arith,
          );
        }

pub ruleset turning = (turns_both, turns_left, turns_right, turns_room, turn_less, turn_greater, turn_equal)

-- ---- put_origins

pub record Merged (a : Bytes) (i₀ : ℕ) (b : Bytes) (j₀ : ℕ) (c₀ : Counts) (o₀ o : Bytes) (i j : ℕ) (c : Counts) : Type 0 where
  pub start : Stands Changes a i₀ Changes b j₀ c₀
  pub len : length o ≡ length o₀
  pub wrote : Wrote Delta Changes a i₀ Changes b j₀ c₀ o₀ o i j c

pub merged_start : (a : Bytes) (i : ℕ) (b : Bytes) (j : ℕ) (c : Counts) (o : Bytes) → Stands Changes a i Changes b j c → Merged a i b j c o o i j c
unfolding cell_bytes
merged_start a i b j c o s = record {
  start = s;
  len = refl;
  wrote = record {
    written = [];
    is = refl;
    counts = plus_nil Delta c;
    laid = writes_nil Delta o c.len;
    short = omega arith;
    announced = omega arith;
    withdrawn = omega arith;
    ready_a = s.ready_a;
    ready_b = s.ready_b;
    on_a = omega arith;
    on_b = omega arith;
  };
}

module _ (a : Bytes) (i₀ : ℕ) (b : Bytes) (j₀ : ℕ) (c₀ : Counts) (o₀ o : Bytes) (i j : ℕ) (c : Counts) (m : Merged a i₀ b j₀ c₀ o₀ o i j c) where
  pub merged_left : Ready Changes a i
  merged_left = m.wrote.ready_a

  pub merged_right : Ready Changes b j
  merged_right = m.wrote.ready_b

  pub merged_countable : OriginCountable c
  merged_countable =
      let s = m.start in
      let w = m.wrote in
      let x = w.ready_a.within in
      let y = w.ready_b.within in
      record {
        len = rw w.counts (omega (arith, s.len, w.short, s.short_a, s.short_b));
        announced = rw w.counts (omega (arith, s.announced, w.announced, s.short_a, s.short_b));
        withdrawn = rw w.counts (omega (arith, s.withdrawn, w.withdrawn, s.short_a, s.short_b));
      }

  module _ (o' : Bytes) (t : Option Stand) (h : OriginStepIs a i b j c o o' t) where
    pub merged_end : t ≡ None → Wrote Delta Changes a i₀ Changes b j₀ c₀ o₀ o' i j c
    merged_end e = let z : o' ≡ o = rw e at h.is in rw z m.wrote

    pub merged_long : t ≡ None → length o' ≡ length o₀
    merged_long e = let z : o' ≡ o = rw e at h.is in ap length z ∙ m.len

    module _ (n : Stand) (e : t ≡ Some n) where
      pub merged_again : Merged a i₀ b j₀ c₀ o₀ o' n.left n.right n.counts
      merged_again =
          let w = (rw e at h.is) in
          record {
            start = m.start;
            len = ap length w.0.laid ∙ length-sets o c.len (writes Delta w.0.written) ∙ m.len;
            wrote = then Delta Changes a i₀ Changes b j₀ c₀ o₀ o i j c m.wrote o' n.left n.right n.counts w.0;
          }

      pub merged_less : length a - n.left + (length b - n.right) < length a - i + (length b - j)
      merged_less = let w = (rw e at h.is) in omega (arith, w.0.on_a, w.0.on_b, w.1, w.0.ready_a.within, w.0.ready_b.within)

pub ruleset merging = (merged_start, merged_left, merged_right, merged_countable, merged_end, merged_long, merged_again, merged_less)
