-- A field of a good run as a walk over bytes meets it, and the same field at another place.
use Prim.Native.Nat.{ℕ, ◌+◌, ◌<◌, ◌≤◌}
use mathlib.Core.Path.{◌≡◌, refl, sym, ap, ◌∙◌}
use mathlib.Core.List.{List, ◌∷◌, ◌++◌}
use mathlib.Core.Bool.{true}
use native.Mathlib.Omega.{arith}
use borrow.Author.Tests.{le-leb}
use lib.ListN.{length, get_or, take, drop, length-append, length-drop, take-append-drop}
use lib.Seq.{take_at, take-append_seam, drop-append_seam, get_or-drop}
use Rattle.number.specs.Number.{two, two_at}
use Rattle.body.specs.declared.tag.Form.{Form}
use Rattle.body.specs.declared.tag.Form.TheVariants.{Snapshot}
use Rattle.body.specs.Tag.{tag_of, good_body}
use Rattle.body.proofs.Sizes.{origin_size}
use Rattle.field.specs.Head.{Front, end, cut, whole, front}
use Rattle.field.specs.Places.{GoodAt}
use Rattle.field.proofs.Fronts.{opens, front_end}
use Rattle.field.proofs.Run.{run_cut, run_whole}

-- a field by its bytes
front_bytes : (tag h l : ℕ) (b s : List ℕ) → two h l ≡ length b → front (tag ∷ h ∷ l ∷ b ++ s) ≡ whole tag b s
unfolding front
front_bytes tag h l b s e =
    let w : length b ≤ length (b ++ s) = simp length-append (omega arith) in
    rw (e, le-leb (length b) (length (b ++ s)) w, take-append_seam b s, drop-append_seam b s)

-- where the bytes of a whole field stand, there stands the same field
pub front_same : (x y : List ℕ) (tag : ℕ) (b rest : List ℕ) → front x ≡ whole tag b rest → take (3 + length b) y ≡ take (3 + length b) x
    → front y ≡ whole tag b (drop (3 + length b) y)
front_same x y tag b rest e t =
    let o = opens x tag b rest e in
    let f : List ℕ = tag ∷ o.high ∷ o.low ∷ b in
    let p : take (3 + length b) x ≡ f = ap (take (3 + length b)) o.bytes ∙ take_at f rest (3 + length b) (omega arith) in
    let q : y ≡ f ++ drop (3 + length b) y = sym (take-append-drop (3 + length b) y) ∙ rw (t, p) in
    ap front q ∙ front_bytes tag o.high o.low b (drop (3 + length b) y) o.size

-- the field at `at` of a good run
pub record Found (form : Form) (s : List ℕ) (at : ℕ) : Type 0 where
  pub tag : ℕ
  pub body : List ℕ
  pub rest : List ℕ
  pub reads : front (drop at s) ≡ whole tag body rest
  pub is : get_or s at 0 ≡ tag
  pub size : two_at s (at + 1) ≡ length body
  pub good : good_body form tag body ≡ true

pub found : (form : Form) (s : List ℕ) (at : ℕ) → GoodAt form s at → at < length s → Found form s at
found form s at g h = go (front (drop at s)) refl
  where
    go : (f : Front) → front (drop at s) ≡ f → Found form s at
    go end e = absurd (let z = ap length (front_end (drop at s) e) in omega (arith, length-drop at s))
    go cut e = absurd (run_cut form g.run e)
    go (whole tag body rest) e =
        let o = opens (drop at s) tag body rest e in
        let w = run_whole form tag body rest g.run e in
        let a : at + 0 ≡ at = omega arith in
        let b : at + 1 + 1 ≡ at + 2 = omega arith in
        let p : get_or s (at + 0) 0 ≡ tag = sym (get_or-drop at s 0 0) ∙ ap (λ (l : List ℕ). get_or l 0 0) o.bytes in
        let q : get_or s (at + 1) 0 ≡ o.high = sym (get_or-drop at s 1 0) ∙ ap (λ (l : List ℕ). get_or l 1 0) o.bytes in
        let r : get_or s (at + 2) 0 ≡ o.low = sym (get_or-drop at s 2 0) ∙ ap (λ (l : List ℕ). get_or l 2 0) o.bytes in
        record {
          tag = tag;
          body = body;
          rest = rest;
          reads = e;
          is = rw a at p;
          size = rw (b, q, r) o.size;
          good = w.0;
        }

-- an origin's body has 23 bytes
pub found_origin : (s : List ℕ) (at : ℕ) (f : Found Snapshot s at) → get_or s at 0 ≡ 1 → length f.body ≡ 23
unfolding good_body tag_of
found_origin s at f e =
    let t : f.tag ≡ 1 = sym f.is ∙ e in
    origin_size f.body (rw t at f.good)

-- what follows it is a good run
pub good_behind : (form : Form) (s : List ℕ) (at : ℕ) (tag : ℕ) (b rest : List ℕ) (to : ℕ) → GoodAt form s at → front (drop at s) ≡ whole tag b rest
    → rest ≡ drop to s → GoodAt form s to
good_behind form s at tag b rest to g e r = record { before = _; run = rw r at (run_whole form tag b rest g.run e).3 }
