-- Worked examples on bytes: a delta that is longer than the difference, two groupings that differ, a balance, and refusal 12.
use Prim.Native.Nat.{ℕ}
use mathlib.Core.Path.{◌≡◌, refl}
use mathlib.Core.List.{[], ◌∷◌, ◌++◌}
use lib.ListN.{length, replicate}
use Rattle.order.specs.Walk.{walk}
use Rattle.change.specs.Grouping.{Grouping, alone, grouped, leaves, merge_tree}
use Rattle.body.specs.declared.tag.Form.TheVariants.{Snapshot, Delta}
use Rattle.body.specs.Origin.{clean, good_prefix, good_origin}
use Rattle.body.specs.Aspa.{asns, ascending, ascending_from, good_providers, good_aspa, good_update, is_in, sensible_asns, sensible_providers, sensible_aspa, sensible_update}
use Rattle.body.specs.Tag.{tag_of, kind_of, good_body, sensible}
use Rattle.field.specs.Key.{key_of}
use Rattle.field.specs.Head.{front}
use Rattle.field.specs.Verdict.{judge, verdict_f, verdict}
use Rattle.field.specs.Cells.{cells, cells_f, field}
use Rattle.field.specs.Cells as run
use Rattle.payload.specs.Content.{Bytes}
use Rattle.payload.specs.Count.{announced_in}
use Rattle.payload.specs.Payload.{entries, encode}
use Rattle.fit.specs.Fit.{misfit, fit_of}
use Rattle.delta.specs.declared.refusal.Refusal.TheVariants.{Bad, Senseless}
use Rattle.delta.specs.Admission.{admit_one_of, admit_of}
use Rattle.delta.specs.Answer.{difference_of, merged_of, applied_of}
use Rattle.delta.specs.Shortest.{LeadsTo, tagged}
use Rattle.std.specs.Prelude.{Some, Err, Ok}

-- AS 64497 and AS 64498 as the only provider of the customer 64500
abbrev p : Bytes
p = 0 ∷ 0 ∷ 251 ∷ 241 ∷ []

abbrev q : Bytes
q = 0 ∷ 0 ∷ 251 ∷ 242 ∷ []

abbrev customer : Bytes
customer = 0 ∷ 0 ∷ 251 ∷ 244 ∷ []

abbrev held : Bytes → Bytes
held n = 0x03 ∷ 0 ∷ 8 ∷ (customer ++ n)

abbrev updated : Bytes → Bytes → Bytes
updated former new = 0x33 ∷ 0 ∷ 14 ∷ (customer ++ (0 ∷ 1 ∷ (former ++ new)))

-- the origin of 192.0.2.0/24 at AS 64496 under a tag
abbrev origin : ℕ → Bytes
origin tag = tag ∷ 0 ∷ 23 ∷ 4 ∷ 192 ∷ 0 ∷ 2 ∷ (replicate 13 0 ++ (24 ∷ 24 ∷ 0 ∷ 0 ∷ 251 ∷ 240 ∷ []))

-- announce, withdraw, withdraw, grouped in two ways
abbrev left : Grouping Bytes
left = grouped (grouped (alone (origin 0x11)) (alone (origin 0x12))) (alone (origin 0x12))

abbrev right : Grouping Bytes
right = grouped (alone (origin 0x11)) (grouped (alone (origin 0x12)) (alone (origin 0x12)))

-- the same customer's ASPA with no providers, announced and withdrawn
abbrev bare : ℕ → Bytes
bare tag = tag ∷ 0 ∷ 4 ∷ customer

pub record Examples : Type 0 where
  -- an update to the providers that are held can be applied and changes nothing: 17 bytes where the difference has none
  idle : LeadsTo (held p) (held p) (updated p p)
  idle_length : length (updated p p) ≡ 17
  idle_difference : difference_of (held p) (held p) ≡ []
  -- an announcement over a held key would yield the new providers in 11 bytes where the difference has 17, but cannot be applied
  unfit_yields : applied_of (held p) (0x31 ∷ 0 ∷ 8 ∷ (customer ++ q)) ≡ held q
  unfit : fit_of (held p) (0x31 ∷ 0 ∷ 8 ∷ (customer ++ q)) ≡ Some 0
  fit_difference : difference_of (held p) (held q) ≡ updated p q
  -- off a chain two groupings of the same good deltas differ
  announce_good : verdict Delta (origin 0x11) ≡ Ok tt
  withdraw_good : verdict Delta (origin 0x12) ≡ Ok tt
  same_leaves : leaves left ≡ leaves right
  left_first : merge_tree merged_of left ≡ origin 0x12
  right_first : merge_tree merged_of right ≡ []
  -- an update is among the announced of the counts, but brings no customer
  update_leads : LeadsTo (held p) (held q) (updated p q)
  update_announced : announced_in (updated p q) ≡ 1
  update_brings : tagged 0x31 (updated p q) ≡ 0
  customers_after : tagged 0x03 (held q) ≡ 1
  -- and an announced origin is one more
  origin_leads : LeadsTo [] (origin 0x01) (origin 0x11)
  origin_brings : tagged 0x11 (origin 0x11) ≡ 1
  origins_after : tagged 0x01 (origin 0x01) ≡ 1
  -- refusal 12 names the argument and the field; of two arguments the first one's comes first, and 1 before 12 at one field
  bare_alone : admit_one_of Snapshot (bare 0x03) ≡ Err (Senseless 1 0)
  bare_second : admit_of Snapshot (held p) Delta (origin 0x12 ++ bare 0x32) ≡ Err (Senseless 2 26)
  bare_first : admit_of Delta (bare 0x31) Delta (0x31 ∷ []) ≡ Err (Senseless 1 0)
  own_provider : admit_one_of Snapshot (held customer) ≡ Err (Senseless 1 0)
  own_former : admit_one_of Delta (updated customer q) ≡ Err (Senseless 1 0)
  own_new : admit_one_of Delta (updated p customer) ≡ Err (Senseless 1 0)
  own_sound : admit_one_of Delta (updated p q) ≡ Ok tt
  bad_first : admit_one_of Snapshot (0x03 ∷ 0 ∷ 12 ∷ (customer ++ (customer ++ p))) ≡ Err (Bad 1 0)

pub examples : Examples
unfolding verdict verdict_f judge front good_body tag_of kind_of key_of good_origin good_prefix clean good_aspa good_update good_providers asns ascending ascending_from sensible sensible_aspa sensible_update sensible_providers sensible_asns is_in cells cells_f field run.cell_bytes entries encode walk misfit difference_of merged_of applied_of
examples = record {
  idle = record { fine = refl; fits = refl; yields = refl };
  idle_length = refl;
  idle_difference = refl;
  unfit_yields = refl;
  unfit = refl;
  fit_difference = refl;
  announce_good = refl;
  withdraw_good = refl;
  same_leaves = refl;
  left_first = refl;
  right_first = refl;
  update_leads = record { fine = refl; fits = refl; yields = refl };
  update_announced = refl;
  update_brings = refl;
  customers_after = refl;
  origin_leads = record { fine = refl; fits = refl; yields = refl };
  origin_brings = refl;
  origins_after = refl;
  bare_alone = refl;
  bare_second = refl;
  bare_first = refl;
  own_provider = refl;
  own_former = refl;
  own_new = refl;
  own_sound = refl;
  bad_first = refl;
}
