-- The field at a place: how the code finds it, and what it says of the bytes.
use Prim.Native.Nat.{ℕ, suc, ◌+◌, ◌-◌, ◌<◌, ◌≤◌}
use mathlib.Core.Path.{◌≡◌, refl, sym, ◌∙◌}
use mathlib.Core.List.{List, [], ◌∷◌, ◌++◌}
use mathlib.Core.Bool.{cond}
use native.Mathlib.Numerals.{add-one, add-three}
use native.Mathlib.Omega.{arith}
use borrow.Author.Tests.{le-leb, lt-leb}
use lib.Dec.{leb}
use lib.ListN.{length, get_or, take, drop, length-drop, drop_of_length-le}
use lib.Seq.{drop-cons, drop-drop, length-take-le, take-append_seam, drop-append_seam}
use Rattle.order.proofs.Never.{never}
use Rattle.number.specs.Number.{two_at}
use Rattle.number.specs.Bytes.{part}
use Rattle.field.specs.declared.head.Field.{Field}
use Rattle.field.specs.declared.head.Field.TheVariants.{End, Cut, Whole}
use Rattle.field.specs.Head.{Front, end, cut, whole, front, place, field_at}
use Rattle.field.proofs.Fronts.{opens, shorter}

-- ---- how field_at finds it

-- fewer than three bytes, and not none, are no head
short : (l : List ℕ) → 0 < length l → length l < 3 → front l ≡ cut
unfolding front
short [] h k = absurd (omega arith)
short (a ∷ []) h k = refl
short (a ∷ b ∷ []) h k = refl
short (a ∷ b ∷ c ∷ l) h k = absurd (omega arith)

module _ (s : List ℕ) (at : ℕ) where
  head : (n : ℕ) → at + 3 ≤ length s → n ≡ two_at s (at + 1)
      → front (drop at s) ≡ cond (leb n (length s - (at + 3))) (whole (get_or s at 0) (take n (drop (at + 3) s)) (drop n (drop (at + 3) s))) cut
  unfolding front
  head n h e =
      let h0 : at < length s = omega arith in
      let h1 : suc at < length s = omega arith in
      let h2 : suc (suc at) < length s = omega arith in
      let second : at + 1 + 1 ≡ suc (suc at) = omega arith in
      rw (← length-drop (at + 3) s, e, second, add-one, add-three, drop-cons s at 0 h0, drop-cons s (suc at) 0 h1, drop-cons s (suc (suc at)) 0 h2)

  pub field_end : length s ≤ at → End ≡ field_at s at
  unfolding field_at front
  field_end h = rw (drop_of_length-le s h)

  pub field_short : at < length s → length s - at < 3 → Cut ≡ field_at s at
  unfolding field_at
  field_short h k = rw (short (drop at s) (simp length-drop (omega arith)) (simp length-drop k))

  module _ (n : ℕ) (h : at < length s) (k : 3 ≤ length s - at) (e : n ≡ two_at s (at + 1)) where
    pub field_cut : length s - at - 3 < n → Cut ≡ field_at s at
    unfolding field_at
    field_cut l = rw (head n (omega arith) e, lt-leb n (length s - (at + 3)) (omega arith))

    pub field_whole : n ≤ length s - at - 3 → Whole (get_or s at 0) (at + 3) (at + 3 + n) ≡ field_at s at
    unfolding field_at
    field_whole l =
        let w : n ≤ length (drop (at + 3) s) = simp length-drop (omega arith) in
        rw (head n (omega arith) e, le-leb n (length s - (at + 3)) (omega arith), length-take-le n (drop (at + 3) s) w)

pub ruleset placing = (field_end, field_short, field_cut, field_whole)

-- ---- what it says

-- a whole field of s at `at`, its body from `from` up to `to`
pub record WholeAt (s : List ℕ) (at tag from to : ℕ) : Type 0 where
  pub reads : front (drop at s) ≡ whole tag (part s from to) (drop to s)
  pub start : from ≡ at + 3
  pub ordered : from ≤ to
  pub within : to ≤ length s

whole_parts : (s : List ℕ) (at tag : ℕ) (b rest : List ℕ) → front (drop at s) ≡ whole tag b rest → WholeAt s at tag (at + 3) (at + 3 + length b)
whole_parts s at tag b rest e =
    let o = opens (drop at s) tag b rest e in
    let long = shorter (drop at s) tag b rest e in
    let size : length s - at ≡ 3 + length b + length rest = sym (length-drop at s) ∙ long in
    let behind : drop (at + 3) s ≡ b ++ rest = sym (drop-drop 3 at s) ∙ rw o.bytes in
    let body : part s (at + 3) (at + 3 + length b) ≡ b =
    let d : at + 3 + length b - (at + 3) ≡ length b = omega arith in rw (d, behind, take-append_seam b rest) in
    let after : drop (at + 3 + length b) s ≡ rest = sym (drop-drop (length b) (at + 3) s) ∙ rw (behind, drop-append_seam b rest) in
    record { reads = rw (body, after) e; start = refl; ordered = omega arith; within = omega arith }

module _ (s : List ℕ) (at : ℕ) (r : Field) (f : r ≡ field_at s at) where
  -- by what is in front there
  pub end_at_lem : r ≡ End → front (drop at s) ≡ end
  unfolding field_at
  end_at_lem e = go (front (drop at s)) (sym f ∙ e)
    where
      go : (x : Front) → place at x ≡ End → x ≡ end
      go end d = refl
      go cut d = cc
      go (whole tag b rest) d = cc

  pub cut_at : r ≡ Cut → front (drop at s) ≡ cut
  unfolding field_at
  cut_at e = go (front (drop at s)) (sym f ∙ e)
    where
      go : (x : Front) → place at x ≡ Cut → x ≡ cut
      go end d = cc
      go cut d = refl
      go (whole tag b rest) d = cc

  module _ (tag from to : ℕ) (e : r ≡ Whole tag from to) where
    pub whole_at : WholeAt s at tag from to
    unfolding field_at
    whole_at = go (front (drop at s)) refl (sym f ∙ e)
      where
        go : (x : Front) → front (drop at s) ≡ x → place at x ≡ Whole tag from to → WholeAt s at tag from to
        go end q d = never cc
        go cut q d = never cc
        go (whole t b rest) q d =
            let x : t ≡ tag = cc in
            let y : at + 3 ≡ from = cc in
            let z : at + 3 + length b ≡ to = cc in
            rw (← x, ← z, ← y) (whole_parts s at t b rest q)

    pub body_ordered : from ≤ to
    body_ordered = whole_at.ordered

    pub body_within : to ≤ length s
    body_within = whole_at.within

    -- a field takes at least its head
    pub field_long : at + 3 ≤ to
    field_long = let w = whole_at in omega arith

    -- and so less is left behind it
    pub field_less : length s - to < length s - at
    field_less = let w = whole_at in omega arith
