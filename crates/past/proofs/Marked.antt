-- The marked examples hold, by computation.
use mathlib.Core.Path.{refl}
use Rattle.order.specs.Walk.{walk}
use Rattle.serial.specs.Rfc1982.{first_true, standing}
use Rattle.body.specs.Tag.{tag_of, kind_of, good_body, sensible}
use Rattle.body.specs.Aspa.{asns, ascending_from, ascending, good_providers, good_aspa, good_update, is_in, sensible_asns, sensible_providers, sensible_aspa, sensible_update}
use Rattle.field.specs.Head.{front}
use Rattle.field.specs.Key.{key_of}
use Rattle.field.specs.Verdict.{judge, verdict_f, verdict}
use Rattle.field.specs.Cells.{cells_f, cells, field}
use Rattle.field.specs.Cells as run
use Rattle.payload.specs.Payload.{entries, encode}
use Rattle.delta.specs.Answer.{difference_of, merged_of, construct_of, merge_of, merge_out}
use Rattle.past.specs.WellFormed.{well_formed}
use Rattle.past.specs.Query.{merged_last, query_of, query_out}
use Rattle.past.specs.Marked.{Marked}

-- K1 to K11
pub marked : Marked
unfolding standing first_true query_of query_out well_formed merged_last verdict verdict_f judge front good_body tag_of kind_of key_of good_aspa good_update good_providers asns ascending ascending_from sensible sensible_aspa sensible_update sensible_providers sensible_asns is_in cells cells_f field run.cell_bytes entries encode walk difference_of merged_of construct_of merge_of merge_out
marked = record {
  k1 = refl;
  k2 = (refl, refl);
  k3 = (refl, refl, refl, refl);
  k4 = refl;
  k5 = refl;
  k6 = (refl, refl);
  k7 = refl;
  k8 = refl;
  k9 = refl;
  k10 = refl;
  k11 = refl;
}
