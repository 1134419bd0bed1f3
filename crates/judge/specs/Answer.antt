-- What `judge` answers, and what it leaves in `out`.
use Rattle.std.specs.Prelude.{ℕ, List, [], map, cond, leb, length, Err, Ok, Result}
use Rattle.change.specs.Change.{Change, announce, withdraw, update}
use Rattle.body.specs.declared.tag.Form.TheVariants.{Snapshot}
use Rattle.payload.specs.Content.{Bytes}
use Rattle.payload.specs.Payload.{encode, items}
use Rattle.payload.specs.Count.{announces, withdraws, sum_of}
use Rattle.item.specs.declared.sink.Counts.{Counts}
use Rattle.delta.specs.declared.refusal.Refusal.{Refusal}
use Rattle.delta.specs.declared.refusal.Refusal.TheVariants.{NoRoom, Faulty, Absent, Present}
use Rattle.delta.specs.Admission.{and_then, admit_one_of}
use Rattle.delta.specs.Answer.{out_after}
use Rattle.message.specs.declared.version.Version.{Version}
use Rattle.message.specs.Hear.{Told, Stop, faulty, ended, hear}
use Rattle.message.specs.Take.{Taken, all, misfit, as_item, take}
use Rattle.delta.specs.Admission.{Admitted}
use Rattle.judge.specs.declared.judge.Accepted.{Accepted}

-- the messages of an answer, up to the one where it stops, taken one after another on a snapshot's items
abbrev pub taken_of : Version → Bytes → Bytes → Taken
taken_of v snapshot messages = take (items snapshot) (hear v messages).told

-- 15 for an announcement of what is there, 14 for a withdrawal of what is not
abbrev pub misfit_as : Change Bytes → ℕ → Refusal
misfit_as (announce n) at = Present at
misfit_as (withdraw p) at = Absent at
misfit_as (update p n) at = Present at

abbrev pub taken_admitted : Taken → Admitted
taken_admitted (all A) = Ok tt
taken_admitted (misfit t) = Err (misfit_as t.change t.at)

-- 13, unless the answer stops with a good End of Data
abbrev pub stop_admitted : Stop → Admitted
stop_admitted (faulty at) = Err (Faulty at)
stop_admitted (ended session serial times) = Ok tt

-- our snapshot by 10, 1, 12 and 2; then the first faulty message: those that do not fit stand before the one where the answer stops
unfoldable pub judge_admitted : Version → Bytes → Bytes → Admitted
judge_admitted v snapshot messages =
    and_then (admit_one_of Snapshot snapshot) (and_then (taken_admitted (taken_of v snapshot messages)) (stop_admitted (hear v messages).stop))

-- the snapshot that the messages leave
abbrev pub leaves : Taken → Bytes
leaves (all A) = encode Snapshot A
leaves (misfit t) = []

unfoldable pub result_of : Version → Bytes → Bytes → Bytes
result_of v snapshot messages = leaves (taken_of v snapshot messages)

-- its length, and how many messages announce and withdraw
abbrev pub counts_of : List Told → Bytes → Counts
counts_of ts result = record { len = length result; announced = sum_of announces (map as_item ts); withdrawn = sum_of withdraws (map as_item ts) }

-- the session, the serial and the times of the End of Data
abbrev pub accepted : Stop → Counts → Result Accepted Refusal
accepted (faulty at) c = Err (Faulty at)
accepted (ended session serial times) c = Ok (record { session = record { 0 = session }; serial = record { 0 = serial }; times = times; counts = c })

abbrev pub judge_answer : Admitted → Stop → Counts → ℕ → Result Accepted Refusal
judge_answer (Err r) stop c room = Err r
judge_answer (Ok tt) stop c room = cond (leb c.len room) (accepted stop c) (Err NoRoom)

-- version, our snapshot, the messages, room
unfoldable pub judge_of : Version → Bytes → Bytes → ℕ → Result Accepted Refusal
judge_of v snapshot messages room =
    judge_answer (judge_admitted v snapshot messages) (hear v messages).stop (counts_of (hear v messages).told (result_of v snapshot messages)) room

unfoldable pub judge_out : Version → Bytes → Bytes → Bytes → Bytes
judge_out v snapshot messages out = out_after (judge_admitted v snapshot messages) (result_of v snapshot messages) out
