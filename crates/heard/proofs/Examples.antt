-- Closed examples of the definitions.
use mathlib.Core.Path.{◌≡◌, refl}
use mathlib.Core.List.{[], ◌∷◌}
use mathlib.Core.Bool.{true, false}
use lib.ListN.{drop}
use Rattle.body.specs.Origin.{clean, good_prefix, good_origin}
use Rattle.body.specs.Tag.{tag_of, good_body}
use Rattle.field.specs.Cells.{field}
use Rattle.payload.specs.Content.{Bytes}
use Rattle.message.specs.declared.version.Version.TheVariants.{Rfc8210}
use Rattle.heard.specs.Place.{key_at, precedes}
use Rattle.heard.specs.Field.{record_field}
use Rattle.heard.specs.Heard.{count_flags, sum_fields}
use Rattle.heard.specs.Step.{is_whole, opens, sized_at, payload_at}

-- a Cache Response of session 7; 10.0.0.0/24 of AS 1 announced, 2001::/16 withdrawn, 10.0.0.0/24 withdrawn, and once more with the flags 2
abbrev answer : Bytes
answer =
    1 ∷ 3 ∷ 0 ∷ 7 ∷ 0 ∷ 0 ∷ 0 ∷ 8
    ∷ 1 ∷ 4 ∷ 0 ∷ 0 ∷ 0 ∷ 0 ∷ 0 ∷ 20 ∷ 1 ∷ 24 ∷ 24 ∷ 0 ∷ 10 ∷ 0 ∷ 0 ∷ 0 ∷ 0 ∷ 0 ∷ 0 ∷ 1
    ∷ 1 ∷ 6 ∷ 0 ∷ 0 ∷ 0 ∷ 0 ∷ 0 ∷ 32 ∷ 0 ∷ 16 ∷ 48 ∷ 0 ∷ 32 ∷ 1 ∷ 0 ∷ 0 ∷ 0 ∷ 0 ∷ 0 ∷ 0 ∷ 0 ∷ 0 ∷ 0 ∷ 0 ∷ 0 ∷ 0 ∷ 0 ∷ 0 ∷ 0 ∷ 0 ∷ 0 ∷ 1
    ∷ 1 ∷ 4 ∷ 0 ∷ 0 ∷ 0 ∷ 0 ∷ 0 ∷ 20 ∷ 0 ∷ 24 ∷ 24 ∷ 0 ∷ 10 ∷ 0 ∷ 0 ∷ 0 ∷ 0 ∷ 0 ∷ 0 ∷ 1
    ∷ 1 ∷ 4 ∷ 0 ∷ 0 ∷ 0 ∷ 0 ∷ 0 ∷ 20 ∷ 2 ∷ 24 ∷ 24 ∷ 0 ∷ 10 ∷ 0 ∷ 0 ∷ 0 ∷ 0 ∷ 0 ∷ 0 ∷ 1 ∷ []

-- they stand at 8, 28, 60 and 80
key_of_lem : key_at answer 8 ≡ 1 ∷ 4 ∷ 10 ∷ 0 ∷ 0 ∷ 0 ∷ 0 ∷ 0 ∷ 0 ∷ 0 ∷ 0 ∷ 0 ∷ 0 ∷ 0 ∷ 0 ∷ 0 ∷ 0 ∷ 0 ∷ 24 ∷ 24 ∷ 0 ∷ 0 ∷ 0 ∷ 1 ∷ []
unfolding key_at
key_of_lem = refl

field_of : record_field (key_at answer 8) ≡ 1 ∷ 0 ∷ 23 ∷ 4 ∷ 10 ∷ 0 ∷ 0 ∷ 0 ∷ 0 ∷ 0 ∷ 0 ∷ 0 ∷ 0 ∷ 0 ∷ 0 ∷ 0 ∷ 0 ∷ 0 ∷ 0 ∷ 0 ∷ 24 ∷ 24 ∷ 0 ∷ 0 ∷ 0 ∷ 1 ∷ []
unfolding key_at field
field_of = refl

-- by the record, and of one record by the offset
order_of : (precedes answer 8 28 ≡ true) × (precedes answer 60 28 ≡ true) × (precedes answer 8 60 ≡ true) × (precedes answer 60 8 ≡ false)
unfolding precedes key_at
order_of = (refl, refl, refl, refl)

counts_of_lem : (count_flags answer true (8 ∷ 28 ∷ 60 ∷ []) ≡ 1) × (count_flags answer false (8 ∷ 28 ∷ 60 ∷ []) ≡ 2)
unfolding count_flags
counts_of_lem = (refl, refl)

sums_of : (sum_fields answer true (8 ∷ 28 ∷ 60 ∷ []) ≡ 26) × (sum_fields answer false (8 ∷ 28 ∷ 60 ∷ []) ≡ 52)
unfolding sum_fields key_at field
sums_of = (refl, refl)

opens_of : (opens Rfc8210 answer ≡ true) × (opens Rfc8210 (drop 8 answer) ≡ false)
unfolding opens is_whole
opens_of = (refl, refl)

-- with the flags 2 it is none
good_of : (payload_at Rfc8210 answer 8 ≡ true) × (payload_at Rfc8210 answer 28 ≡ true) × (payload_at Rfc8210 answer 80 ≡ false) × (payload_at Rfc8210 answer 0 ≡ false)
unfolding payload_at sized_at key_at good_body tag_of good_origin good_prefix clean
good_of = (refl, refl, refl, refl)
