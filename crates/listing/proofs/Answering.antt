-- Laws of the two entries.
use Rattle.delta.specs.Answer.{Constructed}
use Prim.Native.Nat.{ℕ, ◌≤◌}
use mathlib.Core.Path.{◌≡◌, refl, sym, ap, ◌∙◌}
use mathlib.Core.List.{[]}
use mathlib.Core.Bool.{Bool, true, false}
use native.Mathlib.Omega.{arith}
use borrow.Author.Tests.{leb-true, le-leb}
use lib.Dec.{leb, eqb}
use lib.ListN.{length, take, drop, length-append}
use lib.Seq.{take-length, take-append_seam}
use Rattle.order.specs.Comparison.{bytes}
use Rattle.order.proofs.Never.{never}
use Rattle.change.proofs.Whole.{merge_earlier}
use Rattle.serial.specs.declared.Serial.{Serial}
use Rattle.serial.specs.Serial.{zero_serial}
use Rattle.number.proofs.Eights.{Octets}
use Rattle.body.specs.declared.tag.Form.TheVariants.{Snapshot, Delta}
use Rattle.field.specs.Head.{front}
use Rattle.field.specs.Verdict.{judge, verdict_f, verdict}
use Rattle.payload.specs.Content.{Bytes}
use Rattle.payload.specs.Written.{written_over}
use Rattle.payload.specs.Payload.{changes}
use Rattle.payload.proofs.Faithful.{faithful, entries_end}
use Rattle.delta.specs.declared.refusal.Refusal.{Refusal}
use Rattle.item.specs.declared.sink.Counts.{Counts}
use Rattle.item.specs.declared.reading.Reading.TheVariants.{Changes}
use Rattle.delta.specs.Admission.{and_then, judged_of, admit_one_of, admit_of}
use Rattle.delta.specs.Inputs.{Inputs}
use Rattle.item.specs.Write.{plus_all, zero}
use Rattle.walk.specs.Walk.{Runs, merged_as}
use Rattle.delta.specs.Answer.{difference_of, counts_of, out_after, construct_at, construct_of, construct_out}
use Rattle.delta.proofs.Answering.{admitted_inputs, runs_of, counts_are}
use Rattle.delta.proofs.Demand.{difference_short}
use Rattle.payload.specs.Limit.{limit}
use Rattle.listing.specs.declared.report.Report.{Report}
use Rattle.listing.specs.declared.report.Report.TheVariants as report
use Rattle.listing.specs.declared.diff.File.{File}
use Rattle.listing.specs.declared.diff.File.TheVariants.{Absent, TooLong, Read}
use Rattle.listing.specs.Listing.{listing_of}
use Rattle.listing.specs.Report.{written_of, listed_of}
use Rattle.listing.specs.Told.{len_of, Told}
use Rattle.listing.specs.Answer.{list_of, list_out, report_at, report_of, text_of, delta_after, diff_of, diff_out}
use Rattle.delta.specs.Admission.{Admitted}
use Rattle.std.specs.Prelude.{Err, Ok, None, Result, Some}

-- ---- counts_of

nothing_fine : verdict Delta [] ≡ Ok tt
unfolding verdict verdict_f judge front
nothing_fine = refl

and_yes : (x : Admitted) → and_then x (Ok tt) ≡ x
and_yes (Ok tt) = refl
and_yes (Err r) = refl

module _ (d : Bytes) (a : admit_one_of Delta d ≡ Ok tt) where
  inputs : Inputs Delta d Delta []
  inputs =
      admitted_inputs Delta d Delta []
      (rw (nothing_fine, and_yes (judged_of Delta d 1)) a)

  pub counts_runs : Runs Changes d Changes []
  counts_runs = runs_of Changes d Changes [] inputs

  pub counts_is : (r : Counts) → Octets d → r ≡ plus_all Delta zero (merged_as Changes d Changes []) → r ≡ counts_of d
  counts_is r o e =
      e ∙ rw (entries_end Delta, merge_earlier bytes bytes (changes d)) (counts_are (changes d) ∙ ap counts_of ((faithful Delta).bytes_back d (λ i. (o i).fits) inputs.fine_a))

pub ruleset counting = (counts_runs, counts_is)

-- ---- listing

module _ (d : Bytes) (serial : Serial) (o : Bytes) (x : Admitted) (e : x ≡ admit_one_of Delta d) where
  pub list_refused : (r : Refusal) → x ≡ Err r → Err r ≡ list_of d serial (length o)
  unfolding list_of
  list_refused r q = rw (← e, q)

  pub list_left : (r : Refusal) → x ≡ Err r → o ≡ list_out d serial o
  unfolding list_out
  list_left r q = rw (← e, q)

  module _ (y : x ≡ Ok tt) (c : Counts) (k : c ≡ counts_of d) where
    all : take c.len d ≡ d
    all = rw k (take-length d)

    pub list_told : Told (report.Changed serial c) d
    list_told =
        let short : length d ≤ limit Delta = (inputs d (sym e ∙ y)).short_a in
        record { is = record { within = rw k (omega arith); short = rw k short; are = rw all k } }

    pub list_made : (r : Result ℕ Refusal) → r ≡ listed_of (listing_of serial (take c.len d)) (length o) → r ≡ list_of d serial (length o)
    unfolding list_of
    list_made r q = rw (← e, y, ← all) q

    pub list_out_lem : (p : Bytes) → p ≡ out_after (Ok tt) (listing_of serial (take c.len d)) o → p ≡ list_out d serial o
    unfolding list_out
    list_out_lem p q = rw (← e, y, ← all) q

pub list_yes : (d : Bytes) (x : Admitted) → x ≡ admit_one_of Delta d → x ≡ Ok tt → admit_one_of Delta d ≡ Ok tt
list_yes d x e y = sym e ∙ y

pub ruleset entering = (list_refused, list_left, list_told, list_made, list_out_lem, list_yes)

-- ---- report_change, report_of

module _ (f : File) (old : Bytes) (g : File) (new d : Bytes) where
  pub absent_second : f ≡ TooLong → g ≡ Absent → report.Absent 2 ≡ report_of f old g new (length d)
  absent_second e q = rw (e, q)

-- ---- diff_text

-- what `construct` wrote, where it answers a delta
pub record Made (old new : Bytes) (room : ℕ) (c : Counts) : Type 0 where
  pub admitted : admit_of Snapshot old Snapshot new ≡ Ok tt
  pub counts : c ≡ counts_of (difference_of old new)
  pub fits : length (difference_of old new) ≤ room

-- the counts of a delta that was written
abbrev written_counts : Constructed → Counts
written_counts (Ok (Some (s, c))) = c
written_counts (Ok None) = counts_of []
written_counts (Err r) = counts_of []

module _ (old new : Bytes) (room : ℕ) where
  made_at : (x : Admitted) → admit_of Snapshot old Snapshot new ≡ x → (t w : Bool) → eqb (length (difference_of old new)) 0 ≡ t →
      leb (length (difference_of old new)) room ≡ w → (s : Serial) (c : Counts) →
      construct_at x (difference_of old new) zero_serial room ≡ Ok (Some (s, c)) → Made old new room c
  made_at (Err r) a t w p l s c e = never cc
  made_at (Ok tt) a true w p l s c e = let q = rw p at e in never cc
  made_at (Ok tt) a false false p l s c e = let q = rw (p, l) at e in never cc
  made_at (Ok tt) a false true p l s c e =
      let q = rw (p, l) at e in
      record { admitted = a; counts = sym (ap written_counts q); fits = leb-true (length (difference_of old new)) room l }

  pub made : (s : Serial) (c : Counts) → construct_of old new zero_serial room ≡ Ok (Some (s, c)) → Made old new room c
  unfolding construct_of
  made s c e =
      made_at (admit_of Snapshot old Snapshot new) refl (eqb (length (difference_of old new)) 0) (leb (length (difference_of old new)) room) refl refl s c e

module _ (old new d : Bytes) where
  abbrev D : Bytes
  D = difference_of old new

  abbrev answer : Constructed
  answer = construct_of old new zero_serial (length d)

  module _ (s : Serial) (c : Counts) (e : answer ≡ Ok (Some (s, c))) where
    out_is : construct_out old new d ≡ written_over D d
    unfolding construct_out
    out_is = let m = made old new (length d) s c e in rw (m.admitted, le-leb (length D) (length d) m.fits)

    part_is : take c.len (construct_out old new d) ≡ D
    part_is = let m = made old new (length d) s c e in rw (m.counts, out_is, take-append_seam D (drop (length D) d))

  -- the text says the difference
  written_both : (x : Constructed) → answer ≡ x → written_of (report_at x) (take (len_of (report_at x)) (construct_out old new d)) ≡ written_of (report_at x) D
  written_both (Ok (Some (s, c))) e = ap (listing_of s) (part_is s c e)
  written_both (Ok None) e = refl
  written_both (Err r) e = refl

  written_at : (f g : File) → written_of (report_of f old g new (length d)) (take (len_of (report_of f old g new (length d))) (delta_after f old g new d)) ≡ text_of f old g new (length d)
  unfolding text_of
  written_at Absent g = refl
  written_at TooLong Absent = refl
  written_at TooLong TooLong = refl
  written_at TooLong Read = refl
  written_at Read Absent = refl
  written_at Read TooLong = refl
  written_at Read Read = written_both answer refl

  module _ (o : Octets old) (n : Octets new) where
    short : admit_of Snapshot old Snapshot new ≡ Ok tt → length D ≤ limit Delta
    short a =
        let i = admitted_inputs Snapshot old Snapshot new a in
        difference_short old new
        (record { good = record { octets = λ k. (o k).fits; fine = i.fine_a }; short = i.short_a })
        (record { good = record { octets = λ k. (n k).fits; fine = i.fine_b }; short = i.short_b })

    told_both : (x : Constructed) → answer ≡ x → Told (report_at x) (construct_out old new d)
    told_both (Ok None) e = record { is = tt }
    told_both (Err r) e = record { is = tt }
    told_both (Ok (Some (s, c))) e =
        let m = made old new (length d) s c e in
        record {
          is = record {
            within = rw (m.counts, out_is s c e) (omega (arith, length-append D (drop (length D) d)));
            short = rw m.counts (short m.admitted);
            are = rw (part_is s c e) m.counts;
          };
        }

    told_at_lem : (f g : File) → Told (report_of f old g new (length d)) (delta_after f old g new d)
    told_at_lem Absent g = record { is = tt }
    told_at_lem TooLong Absent = record { is = tt }
    told_at_lem TooLong TooLong = record { is = tt }
    told_at_lem TooLong Read = record { is = tt }
    told_at_lem Read Absent = record { is = tt }
    told_at_lem Read TooLong = record { is = tt }
    told_at_lem Read Read = told_both answer refl

module _ (f : File) (old : Bytes) (g : File) (new d d' : Bytes) (r : Report) (e : r ≡ report_of f old g new (length d)) (q : d' ≡ delta_after f old g new d) where
  pub diff_told : Octets old → Octets new → Told r d'
  diff_told o n = rw (e, q) (told_at_lem old new d o n f g)

  says : written_of r (take (len_of r) d') ≡ text_of f old g new (length d)
  says = rw (e, q) (written_at old new d f g)

  module _ (o : Bytes) where
    pub diff_answer : (x : Result ℕ Refusal) → x ≡ listed_of (written_of r (take (len_of r) d')) (length o) → x ≡ diff_of f old g new (length d) (length o)
    unfolding diff_of
    diff_answer x h = h ∙ ap (λ (t : Bytes). listed_of t (length o)) says

    pub diff_out_lem : (p : Bytes) → p ≡ out_after (Ok tt) (written_of r (take (len_of r) d')) o → p ≡ diff_out f old g new (length d) o
    unfolding diff_out
    diff_out_lem p h = h ∙ ap (λ (t : Bytes). out_after (Ok tt) t o) says

pub ruleset diffing = (diff_told, diff_answer, diff_out_lem)
