-- What the three entries answer, and what they leave in `out`.
use Rattle.std.specs.Prelude.{ℕ, cond, leb, eqb, length, None, Option, Some, Err, Ok, Result}
use Rattle.order.specs.Comparison.{bytes}
use Rattle.change.specs.Difference.{diff}
use Rattle.change.specs.Merge.{merge}
use Rattle.change.specs.Application.{apply}
use Rattle.serial.specs.declared.Serial.{Serial}
use Rattle.serial.specs.Serial.{next_of}
use Rattle.body.specs.declared.tag.Form.TheVariants.{Snapshot, Delta}
use Rattle.payload.specs.Content.{Bytes}
use Rattle.payload.specs.Payload.{encode, items, changes}
use Rattle.payload.specs.Count.{announced_in, withdrawn_in}
use Rattle.payload.specs.Written.{written_if_room}
use Rattle.delta.specs.declared.refusal.Refusal.TheVariants.{NoRoom, CannotApply}
use Rattle.item.specs.declared.sink.Counts.{Counts}
use Rattle.delta.specs.Admission.{and_then, admit_of}
use Rattle.fit.specs.Fit.{fit_of}
use Rattle.delta.specs.Admission.{Admitted}
use Rattle.delta.specs.declared.refusal.Refusal.{Refusal}

-- the bytes of the difference, of the merge, of the snapshot with the delta applied
unfoldable pub difference_of : Bytes → Bytes → Bytes
difference_of old new = encode Delta (diff bytes bytes (items old) (items new))

unfoldable pub merged_of : Bytes → Bytes → Bytes
merged_of earlier later = encode Delta (merge bytes bytes (changes earlier) (changes later))

unfoldable pub applied_of : Bytes → Bytes → Bytes
applied_of snapshot delta = encode Snapshot (apply bytes (items snapshot) (changes delta))

-- the length of a delta, and its counts of tags
abbrev pub counts_of : Bytes → Counts
counts_of d = record { len = length d; announced = announced_in d; withdrawn = withdrawn_in d }

-- the answer's bytes over `out`; where they do not fit, or the call is refused, `out` as it was
abbrev pub out_after : Admitted → Bytes → Bytes → Bytes
out_after (Err r) answer out = out
out_after (Ok tt) answer out = written_if_room answer out

-- a delta that was written, with its serial, or nothing where nothing changed
abbrev pub Constructed : Type 0
Constructed = Result (Option (Serial × Counts)) Refusal

-- a delta that was written, with its serial
abbrev pub Merged : Type 0
Merged = Result (Serial × Counts) Refusal

-- the length of the snapshot that was written
abbrev pub Applied : Type 0
Applied = Result ℕ Refusal

-- old, new, old serial, room
abbrev pub construct_at : Admitted → Bytes → Serial → ℕ → Constructed
construct_at (Err r) d serial room = Err r
construct_at (Ok tt) d serial room =
    cond (eqb (length d) 0) (Ok None)
    (cond (leb (length d) room) (Ok (Some (next_of serial, counts_of d))) (Err NoRoom))

unfoldable pub construct_of : Bytes → Bytes → Serial → ℕ → Constructed
construct_of old new serial room = construct_at (admit_of Snapshot old Snapshot new) (difference_of old new) serial room

unfoldable pub construct_out : Bytes → Bytes → Bytes → Bytes
construct_out old new out = out_after (admit_of Snapshot old Snapshot new) (difference_of old new) out

-- earlier, later, the later's serial, room
abbrev pub merge_answer : Admitted → Bytes → Serial → ℕ → Merged
merge_answer (Err r) d serial room = Err r
merge_answer (Ok tt) d serial room = cond (leb (length d) room) (Ok (serial, counts_of d)) (Err NoRoom)

unfoldable pub merge_of : Bytes → Bytes → Serial → ℕ → Merged
merge_of earlier later serial room = merge_answer (admit_of Delta earlier Delta later) (merged_of earlier later) serial room

unfoldable pub merge_out : Bytes → Bytes → Bytes → Bytes
merge_out earlier later out = out_after (admit_of Delta earlier Delta later) (merged_of earlier later) out

-- snapshot, delta, room: refusal 3 comes after 10, 1, 12 and 2
abbrev pub fit_admitted : Option ℕ → Admitted
fit_admitted None = Ok tt
fit_admitted (Some at) = Err (CannotApply at)

abbrev pub apply_admitted : Bytes → Bytes → Admitted
apply_admitted snapshot delta = and_then (admit_of Snapshot snapshot Delta delta) (fit_admitted (fit_of snapshot delta))

abbrev pub apply_answer : Admitted → Bytes → ℕ → Applied
apply_answer (Err r) s room = Err r
apply_answer (Ok tt) s room = cond (leb (length s) room) (Ok (length s)) (Err NoRoom)

unfoldable pub apply_of : Bytes → Bytes → ℕ → Applied
apply_of snapshot delta room = apply_answer (apply_admitted snapshot delta) (applied_of snapshot delta) room

unfoldable pub apply_out : Bytes → Bytes → Bytes → Bytes
apply_out snapshot delta out = out_after (apply_admitted snapshot delta) (applied_of snapshot delta) out
