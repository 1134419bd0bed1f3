-- A walk over a run that was found good: what the field at a place says of the run from there on.
use Prim.Native.Nat.{ℕ}
use mathlib.Core.Path.{◌≡◌}
use mathlib.Core.List.{List, [], ◌∷◌}
use mathlib.Core.Bool.{true}
use lib.ListN.{drop}
use Rattle.std.specs.declared.cmp.Ordering.TheVariants.{Less}
use Rattle.order.specs.Comparison.{bytes}
use Rattle.number.specs.Bytes.{part}
use Rattle.body.specs.declared.tag.Form.{Form}
use Rattle.body.specs.Tag.{good_body, sensible, kind_of}
use Rattle.field.specs.declared.head.Field.{Field}
use Rattle.field.specs.declared.head.Field.TheVariants.{End, Cut, Whole}
use Rattle.field.specs.Key.{key_of}
use Rattle.field.specs.Verdict.{verdict}
use Rattle.field.specs.Cells.{cells}
use Rattle.field.specs.Head.{field_at}
use Rattle.field.proofs.Fields.{end_at_lem, cut_at, whole_at}
use Rattle.field.specs.Run.{Run}
use Rattle.field.specs.Places.{GoodAt}
use Rattle.field.proofs.Run.{fine_run, cells_at_end, cells_more, run_cut, run_whole}
use Rattle.std.specs.Prelude.{Ok}

pub good_start_lem : (form : Form) (s : List ℕ) → verdict form s ≡ Ok tt → GoodAt form s 0
good_start_lem form s e = record { before = 0 ∷ []; run = fine_run form s e }

module _ (s : List ℕ) (at : ℕ) (r : Field) (f : r ≡ field_at s at) where
  pub good_end : r ≡ End → cells (drop at s) ≡ []
  good_end e = cells_at_end (drop at s) (end_at_lem s at r f e)

  pub good_cells : (tag from to : ℕ) → r ≡ Whole tag from to → cells (drop at s) ≡ record { tag = tag; body = part s from to } ∷ cells (drop to s)
  good_cells tag from to e = cells_more (drop at s) tag (part s from to) (drop to s) (whole_at s at r f tag from to e).reads

  module _ (form : Form) (g : GoodAt form s at) where
    pub good_cut : r ≡ Cut → ⊥
    good_cut e = run_cut form g.run (cut_at s at r f e)

    module _ (tag from to : ℕ) (e : r ≡ Whole tag from to) where
      here : (good_body form tag (part s from to) ≡ true) × (sensible form tag (part s from to) ≡ true) × (bytes g.before (key_of (kind_of form tag) (part s from to)) ≡ Less)
          × Run form (key_of (kind_of form tag) (part s from to)) (drop to s)
      here = run_whole form tag (part s from to) (drop to s) g.run (whole_at s at r f tag from to e).reads

      pub good_body_lem : good_body form tag (part s from to) ≡ true
      good_body_lem = here.0

      pub good_next : GoodAt form s to
      good_next = record { before = key_of (kind_of form tag) (part s from to); run = here.3 }
