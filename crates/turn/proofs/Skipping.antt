-- Laws of the run that two snapshots have in common.
use Prim.Native.Nat.{ℕ, ◌+◌, ◌-◌, ◌<◌, ◌≤◌, min}
use mathlib.Core.Path.{◌≡◌, refl, sym, ap, ap₂, ◌∙◌}
use mathlib.Core.List.{◌++◌}
use mathlib.Core.Bool.{Bool, false, not}
use native.Mathlib.Omega.{arith}
use borrow.Author.Tests.{eqb-true, not-false}
use lib.Dec.{eqb}
use mir.Syntax.{w8}
use mir.Val.{Fits}
use lib.ListN.{length, get_or, take, drop, length-drop}
use lib.Seq.{take-add, take-take, drop-drop, drop_at, length-take-le}
use Rattle.std.specs.declared.cmp.Ordering.{Ordering}
use Rattle.order.specs.Comparison.{bytes}
use Rattle.order.specs.Walk.{emit}
use Rattle.order.proofs.Comparison.{strings}
use Rattle.order.proofs.Walk.{walk_equal}
use Rattle.change.specs.Change.{update, unless_equal}
use Rattle.change.specs.Merge.{merge_at, merge}
use Rattle.number.specs.Number.{word_at, two_at}
use Rattle.number.proofs.Values.{word_bytes_lem}
use Rattle.body.specs.declared.tag.Form.TheVariants.{Snapshot}
use Rattle.field.specs.Head.{whole, front}
use Rattle.field.specs.Cells.{Cell}
use Rattle.field.specs.If.{If}
use Rattle.field.proofs.Run.{cells_more}
use Rattle.field.proofs.Common.{front_same, Found, found, found_origin, good_behind}
use Rattle.payload.specs.Content.{Bytes, entry_of}
use Rattle.item.specs.declared.reading.Reading.{Reading}
use Rattle.item.specs.declared.reading.Reading.TheVariants.{Withdrawn, Announced}
use Rattle.item.specs.Reading.{item_as, read_as, Ready}
use Rattle.turn.specs.Left.{left_of}
use Rattle.turn.specs.Skip.{SameAt, Agrees, Common, Skips}
use Rattle.item.proofs.Readings.{says_cons}

-- ---- same_eight

pub eights : (a : Bytes) (i : ℕ) (b : Bytes) (j : ℕ) → ((i : ℕ) → Fits w8 (get_or a i 0)) → ((i : ℕ) → Fits w8 (get_or b i 0)) → i + 8 ≤ length a → j + 8 ≤ length b
    → (x y : ℕ) → x ≡ word_at a i → y ≡ word_at b j → If (eqb x y) (SameAt a i b j 8)
eights a i b j o p h k x y d e = record { holds = λ z. record { same = word_bytes_lem a b o p i j h k (sym d ∙ eqb-true x y z ∙ e) } }

-- ---- agree

pub record Agreeing (a : Bytes) (i : ℕ) (b : Bytes) (j n k : ℕ) : Type 0 where
  pub left : i ≤ length a
  pub right : j ≤ length b
  pub both : n ≡ min (length a - i) (length b - j)
  pub passed : k ≤ n
  pub same : SameAt a i b j k

pub agree_start : (a : Bytes) (i : ℕ) (b : Bytes) (j n : ℕ) → i ≤ length a → j ≤ length b → n ≡ min (length a - i) (length b - j) → Agreeing a i b j n 0
agree_start a i b j n h k e = record { left = h; right = k; both = e; passed = omega arith; same = record { same = refl } }

module _ (a : Bytes) (i : ℕ) (b : Bytes) (j n k : ℕ) (l : Agreeing a i b j n k) where
  pub agree_end : Agrees a i b j k
  agree_end = record { within_a = omega (arith, l.both, l.passed, l.left, l.right); within_b = omega (arith, l.both, l.passed, l.left, l.right); same = l.same }

  module _ (h : 8 ≤ n - k) where
    pub agree_left : i + k + 8 ≤ length a
    agree_left = omega (arith, l.both, l.passed, l.left, l.right)

    pub agree_right : j + k + 8 ≤ length b
    agree_right = omega (arith, l.both, l.passed, l.left, l.right)

    pub agree_more : (r : Bool) → If r (SameAt a (i + k) b (j + k) 8) → not r ≡ false → Agreeing a i b j n (k + 8)
    agree_more r f t =
        record {
          left = l.left;
          right = l.right;
          both = l.both;
          passed = omega arith;
          same = record { same = rw (take-add k 8 (drop i a), take-add k 8 (drop j b), drop-drop k i a, drop-drop k j b) (ap₂ (λ (u v : Bytes). u ++ v) l.same.same (f.holds (not-false r t)).same) };
        }

pub ruleset agreeing = (agree_start, agree_end, agree_left, agree_right, agree_more)

-- ---- one field

-- a part of equal bytes is equal
middle : (x y : Bytes) (m k n : ℕ) → m ≤ length x → m ≤ length y → k + n ≤ m → take m x ≡ take m y → take n (drop k x) ≡ take n (drop k y)
middle x y m k n h g l e =
    let p : take (k + n) x ≡ take (k + n) y = sym (take-take (k + n) m x l) ∙ ap (take (k + n)) e ∙ take-take (k + n) m y l in
    let q : take k x ++ take n (drop k x) ≡ take k y ++ take n (drop k y) = sym (take-add k n x) ∙ p ∙ take-add k n y in
    sym (drop_at (take k x) (take n (drop k x)) k (length-take-le k x (omega arith)))
    ∙ ap (drop k) q
    ∙ drop_at (take k y) (take n (drop k y)) k (length-take-le k y (omega arith))

-- a field that both have leaves nothing of itself
module _ (a : Bytes) (p : ℕ) (b : Bytes) (q : ℕ) (tag : ℕ) (body : Bytes) where
  module _ (x : front (drop p a) ≡ whole tag body (drop (p + (3 + length body)) a)) (y : front (drop q b) ≡ whole tag body (drop (q + (3 + length body)) b)) where
    same_left : left_of Withdrawn a p Announced b q ≡ left_of Withdrawn a (p + (3 + length body)) Announced b (q + (3 + length body))
    same_left =
        let c : Cell = record { tag = tag; body = body } in
        let v : Bytes = (entry_of Snapshot c).val in
        let r : Bytes = drop (p + (3 + length body)) a in
        let s : Bytes = drop (q + (3 + length body)) b in
        ap₂ (merge bytes bytes) (says_cons (drop p a) c r Withdrawn (cells_more (drop p a) tag body r x)) (says_cons (drop q b) c s Announced (cells_more (drop q b) tag body s y))
        ∙ walk_equal bytes (merge_at bytes) (item_as Withdrawn c) (read_as Withdrawn r) (item_as Announced c) (read_as Announced s) (strings.self (entry_of Snapshot c).key)
        ∙ ap (λ (o : Ordering). emit (entry_of Snapshot c).key (unless_equal o (update v v)) (merge bytes bytes (read_as Withdrawn r) (read_as Announced s))) (strings.self v)

-- ---- whole

pub record Skipped (a : Bytes) (i : ℕ) (b : Bytes) (j m k : ℕ) : Type 0 where
  pub agrees : Agrees a i b j m
  pub passed : k ≤ m
  pub skips : Skips Withdrawn a i Announced b j k

-- nothing is skipped
pub skips_none : (ra : Reading) (a : Bytes) (i : ℕ) (rb : Reading) (b : Bytes) (j : ℕ) → Ready ra a i → Ready rb b j → Skips ra a i rb b j 0
skips_none ra a i rb b j x y =
    let p : i + 0 ≡ i = omega arith in
    let q : j + 0 ≡ j = omega arith in
    record { is = rw (p, q); ready_a = rw p x; ready_b = rw q y }

pub whole_start : (a : Bytes) (i : ℕ) (b : Bytes) (j m : ℕ) → Common a i b j m → Skipped a i b j m 0
whole_start a i b j m c = record { agrees = c.agrees; passed = omega arith; skips = skips_none Withdrawn a i Announced b j c.ready_a c.ready_b }

module _ (a : Bytes) (i : ℕ) (b : Bytes) (j m k : ℕ) (l : Skipped a i b j m k) where
  pub whole_end : Skips Withdrawn a i Announced b j k
  whole_end = l.skips

  field_on : (tag : ℕ) (body rest : Bytes) → front (drop (i + k) a) ≡ whole tag body rest → k + (3 + length body) ≤ m → Skipped a i b j m (k + (3 + length body))
  field_on tag body rest e h =
      let n : ℕ = 3 + length body in
      let wa = l.agrees.within_a in
      let wb = l.agrees.within_b in
      let t : take n (drop (j + k) b) ≡ take n (drop (i + k) a)
      = sym (rw (drop-drop k i a, drop-drop k j b) at (middle (drop i a) (drop j b) m k n (simp length-drop (omega arith)) (simp length-drop (omega arith)) h l.agrees.same.same)) in
      let x : front (drop (i + k) a) ≡ whole tag body (drop (i + k + n) a) = rw (drop-drop n (i + k) a) at (front_same (drop (i + k) a) (drop (i + k) a) tag body rest e refl) in
      let y : front (drop (j + k) b) ≡ whole tag body (drop (j + k + n) b) = rw (drop-drop n (j + k) b) at (front_same (drop (i + k) a) (drop (j + k) b) tag body rest e t) in
      let p : i + (k + n) ≡ i + k + n = omega arith in
      let q : j + (k + n) ≡ j + k + n = omega arith in
      record {
        agrees = l.agrees;
        passed = h;
        skips = record {
          is = rw (p, q) (l.skips.is ∙ same_left a (i + k) b (j + k) tag body x y);
          ready_a = rw p (record { good = good_behind Snapshot a (i + k) tag body (drop (i + k + n) a) (i + k + n) l.skips.ready_a.good x refl; within = omega arith });
          ready_b = rw q (record { good = good_behind Snapshot b (j + k) tag body (drop (j + k + n) b) (j + k + n) l.skips.ready_b.good y refl; within = omega arith });
        };
      }

  module _ (h : 26 ≤ m - k) where
    pub whole_in : i + k < length a
    whole_in = omega (arith, l.agrees.within_a)

    field_here : Found Snapshot a (i + k)
    field_here = found Snapshot a (i + k) l.skips.ready_a.good whole_in

    pub whole_origin : get_or a (i + k) 0 ≡ 1 → Skipped a i b j m (k + 26)
    whole_origin e =
        let f = field_here in
        let s : length f.body ≡ 23 = found_origin a (i + k) f e in
        rw s at (field_on f.tag f.body f.rest f.reads (omega arith))

    pub whole_other : (r : ℕ) → r ≡ two_at a (i + k + 1) → r + 3 ≤ m - k → Skipped a i b j m (k + (r + 3))
    whole_other r e g =
        let f = field_here in
        let s : 3 + length f.body ≡ r + 3 = omega (arith, f.size, e) in
        rw s at (field_on f.tag f.body f.rest f.reads (omega arith))

pub ruleset skipping = (whole_start, whole_end, whole_in, whole_origin, whole_other)

-- ---- skip

module _ (ra : Reading) (a : Bytes) (i : ℕ) (rb : Reading) (b : Bytes) (j : ℕ) (x : Ready ra a i) (y : Ready rb b j) where
  pub skip_none : Skips ra a i rb b j 0
  skip_none = skips_none ra a i rb b j x y

  module _ (e : ra ≡ Withdrawn) (f : rb ≡ Announced) where
    pub skip_common : (m : ℕ) → Agrees a i b j m → Common a i b j m
    skip_common m g = record { agrees = g; ready_a = rw e at x; ready_b = rw f at y }

    pub skip_same : (k : ℕ) → Skips Withdrawn a i Announced b j k → Skips ra a i rb b j k
    skip_same k s = rw (e, f) s

  pub skip_left : i ≤ length a
  skip_left = x.within

  pub skip_right : j ≤ length b
  skip_right = y.within

pub ruleset skips = (skip_none, skip_common, skip_same, skip_left, skip_right)
