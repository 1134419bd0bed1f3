-- A delta that leads from one good snapshot to another, as a map.
use mathlib.Core.Path.{◌≡◌, sym, ap, ◌∙◌}
use Rattle.order.specs.Comparison.{bytes}
use Rattle.change.specs.Application.{apply}
use Rattle.change.specs.Short as maps
use Rattle.body.specs.declared.tag.Form.TheVariants.{Snapshot, Delta}
use Rattle.field.specs.Verdict.{verdict}
use Rattle.payload.specs.Content.{Bytes}
use Rattle.payload.specs.Payload.{items, changes}
use Rattle.payload.proofs.Faithful.{faithful}
use Rattle.payload.proofs.Closed.{apply_map}
use Rattle.delta.specs.Answer.{applied_of}
use Rattle.delta.specs.Demand.{GoodSnapshot}
use Rattle.delta.specs.Shortest.{LeadsTo}
use Rattle.delta.proofs.Differences.{good_map}
use Rattle.delta.proofs.Answering.{fit_applies}
use Rattle.std.specs.Prelude.{Ok}

module _ (A C D : Bytes) (a : GoodSnapshot A) (l : LeadsTo A C D) where
  -- what is held afterwards, as a map
  pub leads_after : items C ≡ apply bytes (items A) (changes D)
  unfolding applied_of
  leads_after =
      ap items (sym l.yields)
      ∙ (faithful Snapshot).map_back (apply bytes (items A) (changes D))
      (apply_map (items A) (changes D) (good_map A a) ((faithful Delta).map_of D l.fine))

  -- and it is good
  pub leads_fine : verdict Snapshot C ≡ Ok tt
  unfolding applied_of
  leads_fine =
      ap (verdict Snapshot) (sym l.yields)
      ∙ (faithful Snapshot).good_bytes (apply bytes (items A) (changes D))
      (apply_map (items A) (changes D) (good_map A a) ((faithful Delta).map_of D l.fine))

  pub leads_map : maps.LeadsTo bytes bytes (items A) (items C) (changes D)
  leads_map = record {
    ascends = ((faithful Delta).map_of D l.fine).sorted;
    applies = fit_applies A D l.fits;
    yields = sym leads_after;
  }
