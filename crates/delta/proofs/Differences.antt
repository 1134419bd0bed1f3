-- The difference of two good snapshots as bytes: it is good, can be applied to the first and yields the second.
use Prim.Native.Nat.{ℕ, ◌+◌}
use mathlib.Core.Path.{◌≡◌, refl, sym, ap, ◌∙◌}
use mathlib.Core.List.{List, [], ◌∷◌, map}
use native.Mathlib.Omega.{arith}
use lib.ListN.{length}
use Rattle.order.specs.Comparison.{bytes}
use Rattle.order.specs.Map as order
use Rattle.order.proofs.Comparison.{strings}
use Rattle.change.specs.Difference as change
use Rattle.change.specs.Difference.{diff}
use Rattle.change.specs.Application.{Applies}
use Rattle.change.proofs.Whole.{yields, applies, diff_nil, nil_diff}
use Rattle.change.proofs.Items.{ItemFits, items_fit}
use Rattle.body.specs.declared.tag.Form.TheVariants.{Snapshot, Delta}
use Rattle.field.specs.Verdict.{verdict}
use Rattle.field.specs.Cells.{Cell, cells}
use Rattle.field.specs.Cells as run
use Rattle.payload.specs.Content.{Bytes, entry_of}
use Rattle.payload.specs.Valid.{IsMap}
use Rattle.payload.specs.Payload.{entries, encode, items, changes}
use Rattle.payload.proofs.Faithful.{faithful, one_form, entries_end}
use Rattle.fit.specs.Fit.{misfit, fit_of}
use Rattle.delta.specs.Answer.{difference_of, applied_of}
use Rattle.delta.specs.Demand.{GoodSnapshot}
use Rattle.payload.proofs.Closed.{diff_map}
use Rattle.std.specs.Prelude.{None, Ok}

pub good_map : (s : Bytes) → GoodSnapshot s → IsMap Snapshot (items s)
good_map s g = (faithful Snapshot).map_of s g.fine

-- the empty snapshot is good
pub empty_good : GoodSnapshot []
unfolding encode run.cell_bytes
empty_good = record { octets = λ i. omega arith; fine = (faithful Snapshot).good_bytes [] (record { sorted = tt; valid = tt }) }

-- fields that all fit have no first one that does not
fit_all : (A : change.Snapshot Bytes Bytes) (at : ℕ) (cs : List Cell) → order.All (ItemFits strings bytes A) (map (entry_of Delta) cs) →
    misfit A at cs ≡ None
unfolding misfit
fit_all A at [] h = refl
fit_all A at (c ∷ cs) h = rw h.0 (fit_all A (at + 3 + length c.body) cs h.1)

module _ (A B : Bytes) (a : GoodSnapshot A) (b : GoodSnapshot B) where
  change_map : IsMap Delta (diff bytes bytes (items A) (items B))
  change_map = diff_map (items A) (items B) (good_map A a) (good_map B b)

  pub difference_fine : verdict Delta (difference_of A B) ≡ Ok tt
  unfolding difference_of
  difference_fine = (faithful Delta).good_bytes (diff bytes bytes (items A) (items B)) change_map

  pub difference_says : changes (difference_of A B) ≡ diff bytes bytes (items A) (items B)
  unfolding difference_of
  difference_says = (faithful Delta).map_back (diff bytes bytes (items A) (items B)) change_map

  pub difference_applies : Applies bytes bytes (items A) (changes (difference_of A B))
  difference_applies = rw difference_says (applies strings strings (items A) (items B) (good_map A a).sorted (good_map B b).sorted)

  -- no refusal 3
  pub difference_fits : fit_of A (difference_of A B) ≡ None
  unfolding entries
  difference_fits =
      fit_all (items A) 0 (cells (difference_of A B))
      (items_fit strings bytes (items A) (changes (difference_of A B)) (rw difference_says change_map.sorted) difference_applies)

  pub difference_yields : applied_of A (difference_of A B) ≡ B
  unfolding applied_of
  difference_yields =
      rw (difference_says, yields strings strings (items A) (items B) (good_map A a).sorted (good_map B b).sorted)
      ((faithful Snapshot).bytes_back B b.octets b.fine)

  -- the empty difference is that of equal snapshots
  pub difference_empty : difference_of A B ≡ [] → A ≡ B
  difference_empty e =
      let z : diff bytes bytes (items A) (items B) ≡ [] = sym difference_says ∙ ap changes e ∙ entries_end Delta in
      one_form Snapshot A B a.octets b.octets a.fine b.fine
      (nil_diff strings strings (items A) (items B) (good_map A a).sorted (good_map B b).sorted z)

-- and a snapshot's difference to itself is empty
pub difference_self : (A : Bytes) → GoodSnapshot A → difference_of A A ≡ []
unfolding difference_of encode run.cell_bytes
difference_self A a = rw (diff_nil strings strings (items A) (good_map A a).sorted)
