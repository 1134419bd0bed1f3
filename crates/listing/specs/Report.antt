-- What is written: a listing, or one line.
use Rattle.std.specs.Prelude.{ℕ, ◌++◌, cond, leb, length, Err, Ok, Result}
use Rattle.payload.specs.Content.{Bytes}
use Rattle.delta.specs.declared.refusal.Refusal.{Refusal}
use Rattle.delta.specs.declared.refusal.Refusal.TheVariants as refusal
use Rattle.delta.specs.Refusal.{number_of, argument_of, offset_of}
use Rattle.listing.specs.declared.report.Report.{Report}
use Rattle.listing.specs.declared.report.Report.TheVariants.{Changed, Same, Refused, Absent}
use Rattle.listing.specs.Text.{ascii}
use Rattle.listing.specs.Listing.{named, three_of, listing_of}

-- the line of a refusal: 01's number, argument and offset
abbrev pub refused_line : Refusal → Bytes
refused_line r = three_of (ascii "refused ") (number_of r) (ascii " argument ") (argument_of r) (ascii " at ") (offset_of r)

-- the line of an absent file
abbrev pub absent_line : ℕ → Bytes
absent_line n = named (ascii "no file ") n ++ ascii "\n"

-- the text of a report; d is the delta that a report of changes speaks of
abbrev pub written_of : Report → Bytes → Bytes
written_of (Changed serial counts) d = listing_of serial d
written_of Same d = ascii "no change\n"
written_of (Refused r) d = refused_line r
written_of (Absent n) d = absent_line n

-- the text's length, if there is room for it
abbrev pub listed_of : Bytes → ℕ → Result ℕ Refusal
listed_of text room = cond (leb (length text) room) (Ok (length text)) (Err refusal.NoRoom)
