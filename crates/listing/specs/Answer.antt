-- What the two entries answer, and what they leave in what was lent.
use Rattle.delta.specs.Answer.{Constructed}
use Rattle.std.specs.Prelude.{ℕ, Err, Ok, None, Option, Result, Some}
use Rattle.serial.specs.declared.Serial.{Serial}
use Rattle.serial.specs.Serial.{zero_serial}
use Rattle.body.specs.declared.tag.Form.TheVariants.{Delta}
use Rattle.payload.specs.Content.{Bytes}
use Rattle.delta.specs.declared.refusal.Refusal.TheVariants as refusal
use Rattle.delta.specs.Admission.{admit_one_of}
use Rattle.delta.specs.Answer.{difference_of, construct_of, construct_out, out_after}
use Rattle.listing.specs.declared.report.Report.{Report}
use Rattle.listing.specs.declared.report.Report.TheVariants as report
use Rattle.listing.specs.declared.diff.File.{File}
use Rattle.listing.specs.declared.diff.File.TheVariants.{Absent, TooLong, Read}
use Rattle.listing.specs.Listing.{listing_of}
use Rattle.listing.specs.Report.{written_of, listed_of}
use Rattle.delta.specs.Admission.{Admitted}
use Rattle.item.specs.declared.sink.Counts.{Counts}
use Rattle.delta.specs.declared.refusal.Refusal.{Refusal}

-- ---- listing

abbrev pub list_at : Admitted → Bytes → ℕ → Result ℕ Refusal
list_at (Err r) text room = Err r
list_at (Ok tt) text room = listed_of text room

-- delta, serial, room: refusals 10, 1, 12 and 2 of a lone delta, then 4
unfoldable pub list_of : Bytes → Serial → ℕ → Result ℕ Refusal
list_of d serial room = list_at (admit_one_of Delta d) (listing_of serial d) room

unfoldable pub list_out : Bytes → Serial → Bytes → Bytes
list_out d serial out = out_after (admit_one_of Delta d) (listing_of serial d) out

-- ---- diff_text

abbrev pub report_at : Constructed → Report
report_at (Ok (Some (serial, counts))) = report.Changed serial counts
report_at (Ok None) = report.Same
report_at (Err r) = report.Refused r

-- absent files first, then those that are too long, then what `construct` answers with the old serial 0; room is that for the delta
abbrev pub report_of : File → Bytes → File → Bytes → ℕ → Report
report_of Absent old second new room = report.Absent 1
report_of TooLong old Absent new room = report.Absent 2
report_of Read old Absent new room = report.Absent 2
report_of TooLong old TooLong new room = report.Refused (refusal.TooLong 1)
report_of TooLong old Read new room = report.Refused (refusal.TooLong 1)
report_of Read old TooLong new room = report.Refused (refusal.TooLong 2)
report_of Read old Read new room = report_at (construct_of old new zero_serial room)

-- what is written for two files
unfoldable pub text_of : File → Bytes → File → Bytes → ℕ → Bytes
text_of first old second new room = written_of (report_of first old second new room) (difference_of old new)

-- the difference is written where both files were read
abbrev pub delta_after : File → Bytes → File → Bytes → Bytes → Bytes
delta_after Absent old second new delta = delta
delta_after TooLong old second new delta = delta
delta_after Read old Absent new delta = delta
delta_after Read old TooLong new delta = delta
delta_after Read old Read new delta = construct_out old new delta

-- two files, room for the delta, room for the text
unfoldable pub diff_of : File → Bytes → File → Bytes → ℕ → ℕ → Result ℕ Refusal
diff_of first old second new room space = listed_of (text_of first old second new room) space

unfoldable pub diff_out : File → Bytes → File → Bytes → ℕ → Bytes → Bytes
diff_out first old second new room out = out_after (Ok tt) (text_of first old second new room) out
