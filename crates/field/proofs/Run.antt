-- The cells of a run of fields, and a good run as a structure to recur on.
use Prim.Native.Nat.{ℕ, zero, suc, ◌+◌, ◌<◌, ◌≤◌}
use mathlib.Core.Path.{◌≡◌, refl, ap, ◌∙◌}
use mathlib.Core.List.{List, [], ◌∷◌}
use mathlib.Core.Bool.{Bool, true, false, cond}
use native.Mathlib.Omega.{arith}
use lib.ListN.{length}
use Rattle.std.specs.declared.cmp.Ordering.{Ordering}
use Rattle.std.specs.declared.cmp.Ordering.TheVariants.{Less, Equal, Greater}
use Rattle.order.specs.Comparison.{bytes, is_less}
use Rattle.order.proofs.Never.{never}
use Rattle.body.specs.declared.tag.Form.{Form}
use Rattle.body.specs.Tag.{good_body, sensible, kind_of}
use Rattle.field.specs.Head.{Front, end, cut, whole, front}
use Rattle.field.specs.Key.{key_of}
use Rattle.field.specs.Verdict.{judge, verdict_f, verdict}
use Rattle.field.specs.Run.{Run, done, more}
use Rattle.field.specs.Cells.{Cell, cells_f, cells}
use Rattle.field.proofs.Fronts.{front_end, shorter, end≢whole, cut≢whole}
use Rattle.field.specs.declared.verdict.Flaw.TheVariants as flaw
use Rattle.field.specs.Verdict.{Verdict}
use Rattle.std.specs.Prelude.{Err, Ok}

-- ---- the cells, without a bound on their number

none : (n : ℕ) → cells_f n [] ≡ []
unfolding cells_f front
none zero = refl
none (suc n) = refl

empty : (s : List ℕ) → length s ≤ 0 → s ≡ []
empty [] h = refl
empty (a ∷ s) h = absurd (omega arith)

abbrev Agree : ℕ → ℕ → Type 0
Agree n m = (s : List ℕ) → length s ≤ n → length s ≤ m → cells_f n s ≡ cells_f m s

agree_at : (n m : ℕ) → Agree n m → (s : List ℕ) → length s ≤ suc n → length s ≤ suc m → (f : Front) → front s ≡ f
    → cells_f (suc n) s ≡ cells_f (suc m) s
unfolding cells_f
agree_at n m ih s h k end e = rw e
agree_at n m ih s h k cut e = rw e
agree_at n m ih s h k (whole tag b rest) e =
    let l = shorter s tag b rest e in
    rw e (ap (λ (cs : List Cell). record { tag = tag; body = b } ∷ cs) (ih rest (omega arith) (omega arith)))

agree : (n m : ℕ) → Agree n m
agree zero m s h k = rw (empty s h, none 0, none m)
agree (suc n) zero s h k = rw (empty s k, none (suc n), none 0)
agree (suc n) (suc m) s h k = agree_at n m (agree n m) s h k (front s) refl

pub cells_end : cells [] ≡ []
unfolding cells cells_f
cells_end = refl

-- no whole field in front, no cell
pub cells_at_end : (s : List ℕ) → front s ≡ end → cells s ≡ []
unfolding cells cells_f
cells_at_end s e = agree (length s) (suc (length s)) s (omega arith) (omega arith) ∙ rw e

pub cells_at_cut : (s : List ℕ) → front s ≡ cut → cells s ≡ []
unfolding cells cells_f
cells_at_cut s e = agree (length s) (suc (length s)) s (omega arith) (omega arith) ∙ rw e

pub cells_more : (s : List ℕ) (tag : ℕ) (b rest : List ℕ) → front s ≡ whole tag b rest → cells s ≡ record { tag = tag; body = b } ∷ cells rest
unfolding cells cells_f
cells_more s tag b rest e =
    let l = shorter s tag b rest e in
    agree (length s) (suc (length s)) s (omega arith) (omega arith)
    ∙ rw e (ap (λ (cs : List Cell). record { tag = tag; body = b } ∷ cs) (agree (length s) (length rest) rest (omega arith) (omega arith)))

-- ---- a good run of fields

-- two verdicts that differ
bad≢fine : {X : Type 0} {at : ℕ} → ◌≡◌ {A = Verdict} (Err (flaw.Bad at)) (Ok tt) → X
bad≢fine e = never cc

senseless≢fine : {X : Type 0} {at : ℕ} → ◌≡◌ {A = Verdict} (Err (flaw.Senseless at)) (Ok tt) → X
senseless≢fine e = never cc

low≢fine : {X : Type 0} {at : ℕ} → ◌≡◌ {A = Verdict} (Err (flaw.NotAbove at)) (Ok tt) → X
low≢fine e = never cc

module _ (form : Form) where
  -- a judgement that finds nothing found a good body that makes sense, above the key before it
  fine_whole : (at : ℕ) (g c : Bool) (o : Ordering) (v : Verdict) → cond g (cond c (cond (is_less o) v (Err (flaw.NotAbove at))) (Err (flaw.Senseless at))) (Err (flaw.Bad at)) ≡ Ok tt
      → (g ≡ true) × (c ≡ true) × (o ≡ Less) × (v ≡ Ok tt)
  fine_whole at true true Less v e = (refl, refl, refl, e)
  fine_whole at true true Equal v e = low≢fine e
  fine_whole at true true Greater v e = low≢fine e
  fine_whole at true false o v e = senseless≢fine e
  fine_whole at false c o v e = bad≢fine e

  abbrev Runs : ℕ → Type 0
  Runs n = (at : ℕ) (k s : List ℕ) → length s < n → verdict_f form n at k s ≡ Ok tt → Run form k s

  runs_at : (n : ℕ) → Runs n → (at : ℕ) (k s : List ℕ) → length s < suc n → (f : Front) → front s ≡ f
      → judge form at k f (verdict_f form n) ≡ Ok tt → Run form k s
  unfolding judge
  runs_at n ih at k s h end e q = rw (front_end s e) done
  runs_at n ih at k s h cut e q = bad≢fine q
  runs_at n ih at k s h (whole tag b rest) e q =
      let l = shorter s tag b rest e in
      let key : List ℕ = key_of (kind_of form tag) b in
      let p = fine_whole at (good_body form tag b) (sensible form tag b) (bytes k key) (verdict_f form n (at + 3 + length b) key rest) q in
      more tag b rest e p.0 p.1 p.2 (ih (at + 3 + length b) key rest (omega arith) p.3)

  runs : (n : ℕ) → Runs n
  unfolding verdict_f
  runs zero at k s h q = absurd (omega arith)
  runs (suc n) at k s h q = runs_at n (runs n) at k s h (front s) refl q

  -- what the check finds good is a good run
  pub fine_run : (s : List ℕ) → verdict form s ≡ Ok tt → Run form (0 ∷ []) s
  unfolding verdict
  fine_run s q = runs (length s + 1) 0 (0 ∷ []) s (omega arith) q

  run_fine : {k s : List ℕ} → Run form k s → (n at : ℕ) → length s < n → verdict_f form n at k s ≡ Ok tt
  unfolding verdict_f judge front
  run_fine done zero at h = absurd (omega arith)
  run_fine done (suc n) at h = refl
  run_fine (more tag b rest e g c o r) zero at h = absurd (omega arith)
  run_fine (more {s = s} tag b rest e g c o r) (suc n) at h =
      let l = shorter s tag b rest e in
      rw (e, g, c, o) (run_fine r n (at + 3 + length b) (omega arith))

  -- and the other way round
  pub run_verdict : (s : List ℕ) → Run form (0 ∷ []) s → verdict form s ≡ Ok tt
  unfolding verdict
  run_verdict s r = run_fine r (length s + 1) 0 (omega arith)

  -- ---- one field of it

  -- a good run has no field that is cut short
  pub run_cut : {k s : List ℕ} → Run form k s → front s ≡ cut → ⊥
  unfolding front
  run_cut done e = never cc
  run_cut (more tag b rest f g c o r) e = cut≢whole e f

  -- the field in front is good, makes sense, stands above the key before it, and a good run follows
  pub run_whole : {k s : List ℕ} (tag : ℕ) (b rest : List ℕ) → Run form k s → front s ≡ whole tag b rest
      → (good_body form tag b ≡ true) × (sensible form tag b ≡ true) × (bytes k (key_of (kind_of form tag) b) ≡ Less) × Run form (key_of (kind_of form tag) b) rest
  unfolding front
  run_whole tag b rest done e = end≢whole refl e
  run_whole {k} tag b rest (more t c q f g w o r) e =
      let x : t ≡ tag = cc in
      let y : c ≡ b = cc in
      let z : q ≡ rest = cc in
      (rw (x, y) at g, rw (x, y) at w, rw (x, y) at o, rw (x, y, z) at r)
