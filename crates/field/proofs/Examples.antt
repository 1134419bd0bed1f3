-- Examples, computed: what the check finds, and fields as bytes.
use Prim.Native.Nat.{ℕ}
use mathlib.Core.Path.{◌≡◌, refl}
use mathlib.Core.List.{List, [], ◌∷◌, ◌++◌}
use lib.ListN.{length, drop}
use Rattle.body.specs.declared.tag.Form.TheVariants.{Snapshot, Delta}
use Rattle.body.specs.Origin.{clean, good_prefix, good_origin}
use Rattle.body.specs.RouterKey.{good_router_key}
use Rattle.body.specs.Aspa.{asns, ascending_from, ascending, good_providers, good_aspa, good_update, is_in, sensible_asns, sensible_providers, sensible_aspa, sensible_update}
use Rattle.body.specs.Tag.{tag_of, kind_of, good_body, sensible}
use Rattle.body.proofs.Examples.{zeros, origin, net4, asn}
use Rattle.field.specs.Head.{front}
use Rattle.field.specs.Key.{key_of}
use Rattle.field.specs.Verdict.{judge, verdict_f, verdict}
use Rattle.field.specs.Cells.{field}
use Rattle.field.specs.declared.verdict.Flaw.TheVariants as flaw
use Rattle.std.specs.Prelude.{Err, Ok}

-- ---- runs of fields

-- the marked example's origin, 192.0.2.0/24 with maximum 24, and the same of 192.0.3.0/24, as fields of 26 bytes
abbrev first : List ℕ
first = 0x01 ∷ 0 ∷ 23 ∷ origin 4 net4 24 24

abbrev second : List ℕ
second = 0x01 ∷ 0 ∷ 23 ∷ origin 4 (192 ∷ 0 ∷ 3 ∷ 0 ∷ zeros 12) 24 24

-- good ones: the empty one; ascending origins; one of each kind
good : (verdict Snapshot [] ≡ Ok tt)
    × (verdict Delta [] ≡ Ok tt)
    × (verdict Snapshot (first ++ second) ≡ Ok tt)
    × (verdict Snapshot (first ++ 0x02 ∷ 0 ∷ 24 ∷ zeros 24 ++ 0x03 ∷ 0 ∷ 8 ∷ asn 1 ++ asn 2) ≡ Ok tt)
unfolding verdict verdict_f judge front key_of kind_of good_body tag_of good_origin good_prefix clean good_router_key good_aspa good_providers asns ascending ascending_from sensible sensible_aspa sensible_providers sensible_asns is_in
good = (refl, refl, refl, refl)

-- refusal 1: a head of one byte and of two; a length one too long; a byte past the last field; an unknown tag; a bad body
bad : (verdict Snapshot (0x01 ∷ []) ≡ Err (flaw.Bad 0))
    × (verdict Snapshot (0x01 ∷ 0 ∷ []) ≡ Err (flaw.Bad 0))
    × (verdict Snapshot (first ++ 0x03 ∷ 0 ∷ 5 ∷ asn 1) ≡ Err (flaw.Bad 26))
    × (verdict Snapshot (first ++ 0x03 ∷ []) ≡ Err (flaw.Bad 26))
    × (verdict Snapshot (first ++ 0x03 ∷ 0 ∷ []) ≡ Err (flaw.Bad 26))
    × (verdict Snapshot (first ++ 0x04 ∷ 0 ∷ 4 ∷ asn 1) ≡ Err (flaw.Bad 26))
    × (verdict Snapshot (0x03 ∷ 4 ∷ 0 ∷ asn 1) ≡ Err (flaw.Bad 0))
    × (verdict Delta first ≡ Err (flaw.Bad 0))
unfolding verdict verdict_f judge front key_of kind_of good_body tag_of good_origin good_prefix clean good_aspa good_providers asns ascending ascending_from sensible sensible_aspa sensible_providers sensible_asns is_in
bad = (refl, refl, refl, refl, refl, refl, refl, refl)

-- refusal 2: a duplicate; descending origins; a kind below the one before it; two ASPAs that differ in providers alone
not_above : (verdict Snapshot (first ++ first) ≡ Err (flaw.NotAbove 26))
    × (verdict Snapshot (second ++ first) ≡ Err (flaw.NotAbove 26))
    × (verdict Snapshot (0x03 ∷ 0 ∷ 8 ∷ asn 1 ++ asn 2 ++ first) ≡ Err (flaw.NotAbove 11))
    × (verdict Snapshot (0x03 ∷ 0 ∷ 8 ∷ asn 1 ++ asn 2 ++ 0x03 ∷ 0 ∷ 8 ∷ asn 1 ++ asn 3) ≡ Err (flaw.NotAbove 11))
    × (verdict Snapshot (0x03 ∷ 0 ∷ 8 ∷ asn 1 ++ asn 2 ++ 0x03 ∷ 0 ∷ 12 ∷ asn 1 ++ asn 2 ++ asn 3) ≡ Err (flaw.NotAbove 11))
unfolding verdict verdict_f judge front key_of kind_of good_body tag_of good_origin good_prefix clean good_aspa good_providers asns ascending ascending_from sensible sensible_aspa sensible_providers sensible_asns is_in
not_above = (refl, refl, refl, refl, refl)

-- refusal 12: an ASPA without providers; one that names its customer last, behind another field; the same of each change,
-- and of an update in either list
senseless : (verdict Snapshot (0x03 ∷ 0 ∷ 4 ∷ asn 1) ≡ Err (flaw.Senseless 0))
    × (verdict Snapshot (first ++ 0x03 ∷ 0 ∷ 12 ∷ asn 3 ++ asn 2 ++ asn 3) ≡ Err (flaw.Senseless 26))
    × (verdict Delta (0x31 ∷ 0 ∷ 4 ∷ asn 1) ≡ Err (flaw.Senseless 0))
    × (verdict Delta (0x31 ∷ 0 ∷ 8 ∷ asn 1 ++ asn 2 ++ 0x31 ∷ 0 ∷ 8 ∷ asn 2 ++ asn 2) ≡ Err (flaw.Senseless 11))
    × (verdict Delta (0x32 ∷ 0 ∷ 4 ∷ asn 1) ≡ Err (flaw.Senseless 0))
    × (verdict Delta (0x32 ∷ 0 ∷ 8 ∷ asn 1 ++ asn 1) ≡ Err (flaw.Senseless 0))
    × (verdict Delta (0x33 ∷ 0 ∷ 10 ∷ asn 1 ++ 0 ∷ 0 ∷ asn 2) ≡ Err (flaw.Senseless 0))
    × (verdict Delta (0x33 ∷ 0 ∷ 10 ∷ asn 1 ++ 0 ∷ 1 ∷ asn 2) ≡ Err (flaw.Senseless 0))
    × (verdict Delta (0x33 ∷ 0 ∷ 14 ∷ asn 1 ++ 0 ∷ 1 ∷ asn 1 ++ asn 2) ≡ Err (flaw.Senseless 0))
    × (verdict Delta (0x33 ∷ 0 ∷ 14 ∷ asn 1 ++ 0 ∷ 1 ∷ asn 2 ++ asn 1) ≡ Err (flaw.Senseless 0))
unfolding verdict verdict_f judge front key_of kind_of good_body tag_of good_origin good_prefix clean good_aspa good_update good_providers asns ascending ascending_from sensible sensible_aspa sensible_update sensible_providers sensible_asns is_in
senseless = (refl, refl, refl, refl, refl, refl, refl, refl, refl, refl)

-- at one field 1 before 2, 1 before 12 and 12 before 2, and the first bad field alone
order_of_refusals : (verdict Snapshot (0x03 ∷ 0 ∷ 8 ∷ asn 1 ++ asn 2 ++ 0x03 ∷ 0 ∷ 12 ∷ asn 1 ++ asn 2 ++ asn 2) ≡ Err (flaw.Bad 11))
    × (verdict Snapshot (0x03 ∷ 0 ∷ 8 ∷ asn 2 ++ asn 3 ++ 0x00 ∷ 0 ∷ 4 ∷ asn 1) ≡ Err (flaw.Bad 11))
    × (verdict Snapshot (0x03 ∷ 0 ∷ 8 ∷ asn 1 ++ asn 2 ++ 0x03 ∷ 0 ∷ 8 ∷ asn 1 ++ asn 2 ++ 0x03 ∷ 0 ∷ 3 ∷ []) ≡ Err (flaw.NotAbove 11))
    × (verdict Snapshot (0x03 ∷ 0 ∷ 12 ∷ asn 2 ++ asn 2 ++ asn 1) ≡ Err (flaw.Bad 0))
    × (verdict Delta (0x33 ∷ 0 ∷ 18 ∷ asn 1 ++ 0 ∷ 1 ∷ asn 1 ++ asn 3 ++ asn 2) ≡ Err (flaw.Bad 0))
    × (verdict Snapshot (0x03 ∷ 0 ∷ 8 ∷ asn 1 ++ asn 2 ++ 0x03 ∷ 0 ∷ 4 ∷ asn 1) ≡ Err (flaw.Senseless 11))
    × (verdict Snapshot (0x03 ∷ 0 ∷ 4 ∷ asn 1 ++ 0x03 ∷ 0 ∷ 8 ∷ asn 1 ++ asn 2) ≡ Err (flaw.Senseless 0))
    × (verdict Snapshot (0x03 ∷ 0 ∷ 8 ∷ asn 1 ++ asn 2 ++ 0x03 ∷ 0 ∷ 8 ∷ asn 1 ++ asn 2 ++ 0x03 ∷ 0 ∷ 4 ∷ asn 2) ≡ Err (flaw.NotAbove 11))
unfolding verdict verdict_f judge front key_of kind_of good_body tag_of good_aspa good_update good_providers asns ascending ascending_from sensible sensible_aspa sensible_update sensible_providers sensible_asns is_in
order_of_refusals = (refl, refl, refl, refl, refl, refl, refl, refl)

-- a delta: the first hex digit decides before the key, whatever the action; one change for each key
deltas : (verdict Delta (0x12 ∷ drop 1 first ++ 0x11 ∷ drop 1 second) ≡ Ok tt)
    × (verdict Delta (0x31 ∷ 0 ∷ 8 ∷ asn 2 ++ asn 1 ++ 0x32 ∷ 0 ∷ 8 ∷ asn 3 ++ asn 1 ++ 0x33 ∷ 0 ∷ 14 ∷ asn 4 ++ 0 ∷ 1 ∷ asn 1 ++ asn 2) ≡ Ok tt)
    × (verdict Delta (0x33 ∷ 0 ∷ 14 ∷ asn 4 ++ 0 ∷ 1 ∷ asn 1 ++ asn 1 ++ 0x31 ∷ 0 ∷ 8 ∷ asn 5 ++ asn 1) ≡ Ok tt)
    × (verdict Delta (0x11 ∷ drop 1 first ++ 0x12 ∷ drop 1 first) ≡ Err (flaw.NotAbove 26))
    × (verdict Delta (0x32 ∷ 0 ∷ 8 ∷ asn 1 ++ asn 3 ++ 0x31 ∷ 0 ∷ 8 ∷ asn 1 ++ asn 2) ≡ Err (flaw.NotAbove 11))
    × (verdict Delta (0x31 ∷ 0 ∷ 8 ∷ asn 1 ++ asn 2 ++ 0x12 ∷ drop 1 first) ≡ Err (flaw.NotAbove 11))
    × (verdict Delta (0x33 ∷ 0 ∷ 6 ∷ asn 4 ++ 0 ∷ 1 ∷ []) ≡ Err (flaw.Bad 0))
    × (verdict Delta (0x11 ∷ drop 1 first ++ 0x13 ∷ drop 1 second) ≡ Err (flaw.Bad 26))
unfolding verdict verdict_f judge front key_of kind_of good_body tag_of good_origin good_prefix clean good_aspa good_update good_providers asns ascending ascending_from sensible sensible_aspa sensible_update sensible_providers sensible_asns is_in
deltas = (refl, refl, refl, refl, refl, refl, refl, refl)

-- ---- fields as bytes: the length's high byte first

written : field 0x03 (asn 1) ≡ 0x03 ∷ 0 ∷ 4 ∷ asn 1
unfolding field
written = refl

long : (x : List ℕ) → length x ≡ 1_048 → field 0x02 x ≡ 0x02 ∷ 4 ∷ 24 ∷ x
unfolding field
long x e = rw e
