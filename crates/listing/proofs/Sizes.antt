-- How long a text can be, and so what room always suffices.
use Rattle.delta.specs.Answer.{Constructed}
use Prim.Native.Nat.{ℕ, zero, suc, ◌+◌, ◌*◌, ◌≤◌}
use mathlib.Core.Path.{◌≡◌, refl}
use mathlib.Core.List.{[], ◌∷◌}
use native.Mathlib.Omega.{arith}
use borrow.Author.Tests.{le-leb}
use lib.ListN.{length, length-append}
use Rattle.serial.specs.declared.Serial.{Serial}
use Rattle.serial.specs.Serial.{zero_serial}
use Rattle.field.specs.Head.{Front, end, cut, whole, front}
use Rattle.field.specs.Cells.{Cell, cells_f, cells}
use Rattle.field.proofs.Fronts.{shorter}
use Rattle.payload.specs.Content.{Bytes}
use Rattle.delta.specs.declared.refusal.Refusal.{Refusal}
use Rattle.delta.specs.declared.refusal.Refusal.TheVariants as refusal
use Rattle.delta.specs.Refusal.{number_of, argument_of, offset_of}
use Rattle.delta.specs.Answer.{difference_of, counts_of, construct_of}
use Rattle.listing.specs.declared.diff.File.{File}
use Rattle.listing.specs.declared.diff.File.TheVariants.{Absent, TooLong, Read}
use Rattle.listing.specs.Text.{ascii}
use Rattle.listing.specs.Listing.{named, head_of, line_of, lines_of, listing_of}
use Rattle.listing.specs.Report.{refused_line, absent_line, written_of}
use Rattle.listing.specs.Answer.{report_at, text_of, diff_of}
use Rattle.listing.proofs.Lining.{line_length}
use Rattle.listing.proofs.Reporting.{named_short, three_short}
use Rattle.listing.proofs.Answering.{made}
use Rattle.std.specs.Prelude.{Err, None, Ok, Some}

-- a field of n bytes has a line of at most 3 n
lines_at : (n : ℕ) (s : Bytes) → ((t : Bytes) → length (lines_of (cells_f n t)) ≤ 3 * length t) → (f : Front) → front s ≡ f →
    length (lines_of (cells_f (suc n) s)) ≤ 3 * length s
unfolding cells_f lines_of
lines_at n s ih end e = rw e (omega arith)
lines_at n s ih cut e = rw e (omega arith)
lines_at n s ih (whole tag b rest) e =
    let c : Cell = record { tag = tag; body = b } in
    rw e (omega (arith, ih rest, shorter s tag b rest e, line_length c, length-append (line_of c) (lines_of (cells_f n rest))))

lines_most : (n : ℕ) (s : Bytes) → length (lines_of (cells_f n s)) ≤ 3 * length s
unfolding cells_f lines_of
lines_most zero s = omega arith
lines_most (suc n) s = lines_at n s (lines_most n) (front s) refl

pub listing_short : (serial : Serial) (d : Bytes) → length (listing_of serial d) ≤ 3 * length d + 109
unfolding listing_of cells
listing_short serial d =
    omega (
      arith,
      lines_most (length d) d,
      length-append (head_of serial (counts_of d)) (lines_of (cells d)),
      three_short (ascii "serial ") (ascii " announced ") (ascii " withdrawn ") serial.0 (counts_of d).announced (counts_of d).withdrawn (omega arith) (omega arith) (omega arith),
    )

refused_short : (r : Refusal) → length (refused_line r) ≤ 109
refused_short r = three_short (ascii "refused ") (ascii " argument ") (ascii " at ") (number_of r) (argument_of r) (offset_of r) (omega arith) (omega arith) (omega arith)

absent_short : (n : ℕ) → length (absent_line n) ≤ 109
absent_short n = omega (arith, named_short (ascii "no file ") n (omega arith), length-append (named (ascii "no file ") n) (10 ∷ []))

module _ (old new : Bytes) (room : ℕ) where
  answer_short : (x : Constructed) → construct_of old new zero_serial room ≡ x → length (written_of (report_at x) (difference_of old new)) ≤ 3 * room + 109
  answer_short (Ok (Some (s, c))) e = omega (arith, listing_short s (difference_of old new), (made old new room s c e).fits)
  answer_short (Ok None) e = omega arith
  answer_short (Err r) e = omega (arith, refused_short r)

  -- what is written for two files, with this much room for the delta
  pub text_short : (f g : File) → length (text_of f old g new room) ≤ 3 * room + 109
  unfolding text_of
  text_short Absent g = omega (arith, absent_short 1)
  text_short TooLong Absent = omega (arith, absent_short 2)
  text_short TooLong TooLong = omega (arith, refused_short (refusal.TooLong 1))
  text_short TooLong Read = omega (arith, refused_short (refusal.TooLong 1))
  text_short Read Absent = omega (arith, absent_short 2)
  text_short Read TooLong = omega (arith, refused_short (refusal.TooLong 2))
  text_short Read Read = answer_short (construct_of old new zero_serial room) refl

  -- so with that room for the text, it is always written
  pub always_written : (f g : File) (space : ℕ) → 3 * room + 109 ≤ space → diff_of f old g new room space ≡ Ok (length (text_of f old g new room))
  unfolding diff_of
  always_written f g space h = rw (le-leb (length (text_of f old g new room)) space (omega (arith, text_short f g)))
