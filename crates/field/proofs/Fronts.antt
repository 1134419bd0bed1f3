-- What `front` says of the bytes: as it reads them, and back.
use Prim.Native.Nat.{ℕ, ◌+◌, ◌≤◌}
use mathlib.Core.Path.{◌≡◌, refl, sym}
use mathlib.Core.List.{List, [], ◌∷◌, ◌++◌}
use mathlib.Core.Bool.{Bool, true, false, cond}
use native.Mathlib.Omega.{arith}
use borrow.Author.Tests.{leb-true}
use lib.Dec.{leb}
use lib.ListN.{length, take, drop, length-append, take-append-drop}
use lib.Seq.{length-take-le}
use Rattle.order.proofs.Never.{never}
use Rattle.number.specs.Number.{two}
use Rattle.field.specs.Head.{Front, end, cut, whole, front}

-- two fronts that differ: from them anything follows (where the goal is an equation `cc` finds it alone)
pub end≢whole : {X : Type 0} {f : Front} {tag : ℕ} {b rest : List ℕ} → f ≡ end → f ≡ whole tag b rest → X
end≢whole p q = never cc

pub cut≢whole : {X : Type 0} {f : Front} {tag : ℕ} {b rest : List ℕ} → f ≡ cut → f ≡ whole tag b rest → X
cut≢whole p q = never cc

pub end≢cut : {X : Type 0} {f : Front} → f ≡ end → f ≡ cut → X
end≢cut p q = never cc

-- the bytes that a whole field in front of s is made of
pub record Opens (s : List ℕ) (tag : ℕ) (b rest : List ℕ) : Type 0 where
  pub high : ℕ
  pub low : ℕ
  pub bytes : s ≡ tag ∷ high ∷ low ∷ b ++ rest
  pub size : two high low ≡ length b

picked : (c : Bool) (t tag : ℕ) (x y b rest : List ℕ) → cond c (whole t x y) cut ≡ whole tag b rest
    → (c ≡ true) × (t ≡ tag) × (x ≡ b) × (y ≡ rest)
picked true t tag x y b rest e = (refl, (cc), (cc), (cc))
picked false t tag x y b rest e = cut≢whole refl e

pub opens : (s : List ℕ) (tag : ℕ) (b rest : List ℕ) → front s ≡ whole tag b rest → Opens s tag b rest
unfolding front
opens [] tag b rest e = end≢whole refl e
opens (t ∷ []) tag b rest e = cut≢whole refl e
opens (t ∷ h ∷ []) tag b rest e = cut≢whole refl e
opens (t ∷ h ∷ l ∷ s) tag b rest e =
    let n : ℕ = two h l in
    let p = picked (leb n (length s)) t tag (take n s) (drop n s) b rest e in
    let w : n ≤ length s = leb-true n (length s) p.0 in
    record {
      high = h;
      low = l;
      bytes = rw (← p.1, ← p.2, ← p.3, take-append-drop n s);
      size = rw (← p.2) (sym (length-take-le n s w));
    }

pub shorter : (s : List ℕ) (tag : ℕ) (b rest : List ℕ) → front s ≡ whole tag b rest → length s ≡ 3 + length b + length rest
shorter s tag b rest e = let o = opens s tag b rest e in rw (o.bytes, length-append) (omega arith)

not_end : (c : Bool) (t : ℕ) (x y : List ℕ) → cond c (whole t x y) cut ≡ end → ⊥
not_end true t x y e = end≢whole e refl
not_end false t x y e = end≢cut e refl

pub front_end : (s : List ℕ) → front s ≡ end → s ≡ []
unfolding front
front_end [] e = refl
front_end (t ∷ []) e = end≢cut e refl
front_end (t ∷ h ∷ []) e = end≢cut e refl
front_end (t ∷ h ∷ l ∷ s) e = absurd (not_end (leb (two h l) (length s)) t _ _ e)
