-- Examples, computed: document 01's, to the byte, and each other line.
use mathlib.Core.Path.{◌≡◌, refl}
use mathlib.Core.List.{[], ◌∷◌}
use Rattle.order.specs.Walk.{walk}
use Rattle.body.specs.Origin.{clean, good_prefix, good_origin}
use Rattle.body.specs.Aspa.{asns, ascending, good_providers, good_aspa, sensible_asns, sensible_providers, sensible_aspa}
use Rattle.body.specs.Tag.{tag_of, kind_of, good_body, sensible}
use Rattle.field.specs.Head.{front}
use Rattle.field.specs.Key.{key_of}
use Rattle.field.specs.Verdict.{judge, verdict_f, verdict}
use Rattle.field.specs.Cells.{cells_f, cells, field}
use Rattle.field.specs.Cells as run
use Rattle.payload.specs.Content.{Bytes}
use Rattle.payload.specs.Payload.{entries, encode}
use Rattle.delta.specs.Answer.{difference_of, construct_of}
use Rattle.listing.specs.declared.diff.File.TheVariants.{Absent, TooLong, Read}
use Rattle.listing.specs.Text.{ascii, decimal_f, decimal}
use Rattle.listing.specs.Listing.{hexes, line_of, lines_of, named, three_of, listing_of}
use Rattle.listing.specs.Answer.{text_of}

zero_is : decimal 0 ≡ ascii "0"
unfolding decimal decimal_f
zero_is = refl

largest : decimal 18_446_744_073_709_551_615 ≡ ascii "18446744073709551615"
unfolding decimal decimal_f
largest = refl

-- 192.0.2.0/24, maximum 24, AS 64496
abbrev origin : Bytes
origin = 0x01 ∷ 0 ∷ 23 ∷ 4 ∷ 192 ∷ 0 ∷ 2 ∷ 0 ∷ 0 ∷ 0 ∷ 0 ∷ 0 ∷ 0 ∷ 0 ∷ 0 ∷ 0 ∷ 0 ∷ 0 ∷ 0 ∷ 0 ∷ 24 ∷ 24 ∷ 0 ∷ 0 ∷ 0xfb ∷ 0xf0 ∷ []

-- document 01's example
example : text_of Read [] Read origin 65_536
    ≡ ascii "serial 1 announced 1 withdrawn 0\nA 11 04 c0 00 02 00 00 00 00 00 00 00 00 00 00 00 00 00 18 18 00 00 fb f0\n"
unfolding text_of construct_of difference_of verdict verdict_f judge front good_body tag_of kind_of key_of good_origin good_prefix clean sensible cells cells_f field run.cell_bytes entries encode walk listing_of lines_of line_of hexes three_of named decimal decimal_f
example = refl

same : text_of Read origin Read origin 65_536 ≡ ascii "no change\n"
unfolding text_of construct_of difference_of verdict verdict_f judge front good_body tag_of kind_of key_of good_origin good_prefix clean sensible cells cells_f field run.cell_bytes entries encode walk
same = refl

refused : text_of Read (0x04 ∷ []) Read [] 65_536 ≡ ascii "refused 1 argument 1 at 0\n"
unfolding text_of construct_of verdict verdict_f judge front three_of named decimal decimal_f
refused = refl

senseless : text_of Read [] Read (0x03 ∷ 0 ∷ 4 ∷ 0 ∷ 0 ∷ 0 ∷ 1 ∷ []) 65_536 ≡ ascii "refused 12 argument 2 at 0\n"
unfolding text_of construct_of verdict verdict_f judge front good_body tag_of good_aspa good_providers asns ascending sensible sensible_aspa sensible_providers sensible_asns three_of named decimal decimal_f
senseless = refl

-- an absent file comes before one that is too long
absent : text_of TooLong [] Absent [] 65_536 ≡ ascii "no file 2\n"
unfolding text_of named decimal decimal_f
absent = refl

long : text_of Read (0x04 ∷ []) TooLong [] 65_536 ≡ ascii "refused 10 argument 2 at 0\n"
unfolding text_of three_of named decimal decimal_f
long = refl

-- an update is announced; a withdrawal has the former providers
changes : listing_of (record { 0 = 4_294_967_295 }) (0x32 ∷ 0 ∷ 8 ∷ 0 ∷ 0 ∷ 0 ∷ 1 ∷ 0 ∷ 0 ∷ 0 ∷ 7 ∷ 0x33 ∷ 0 ∷ 14 ∷ 0 ∷ 0 ∷ 0 ∷ 2 ∷ 0 ∷ 1 ∷ 0 ∷ 0 ∷ 0 ∷ 7 ∷ 0 ∷ 0 ∷ 0 ∷ 9 ∷ [])
    ≡ ascii "serial 4294967295 announced 1 withdrawn 1\nW 32 00 00 00 01 00 00 00 07\nA 33 00 00 00 02 00 01 00 00 00 07 00 00 00 09\n"
unfolding listing_of cells cells_f front lines_of line_of hexes three_of named decimal decimal_f
changes = refl
