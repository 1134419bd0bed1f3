-- What the calls on a history hand back.
use Rattle.std.specs.Prelude.{ℕ, Err, Ok, Result}
use Rattle.serial.specs.declared.Serial.{Serial}
use Rattle.past.specs.declared.create.Created.{Created}
use Rattle.past.specs.declared.update.Updated.{Updated}
use Rattle.past.specs.declared.query.Queried.{Queried}
use Rattle.past.specs.declared.full.Full.{Full}
use Rattle.appliance.specs.declared.reply.Replied.{Replied}
use Rattle.host.specs.declared.answer.Answer.{Answer}
use Rattle.host.specs.declared.state.State.{State}
use Rattle.host.specs.declared.told.Made.{Made}
use Rattle.host.specs.declared.told.Told.{Told}
use Rattle.host.specs.declared.told.Replies.{Replies}
use Rattle.host.specs.Flat.{refused, wrote, of_length}
use Rattle.host.specs.State.{state_of}
use Rattle.delta.specs.Admission.{Admitted}
use Rattle.item.specs.declared.sink.Counts.{Counts}
use Rattle.delta.specs.declared.refusal.Refusal.{Refusal}
use Rattle.past.specs.declared.update.Update.TheVariants as outcome
use Rattle.past.specs.declared.update.Update.{Update}

-- 1 created, with the start serial
abbrev pub flat_creation : Admitted → Serial → Answer
flat_creation (Ok tt) start = wrote 1 start (of_length 0)
flat_creation (Err r) start = refused r

-- with the fresh state, or one of zeros
abbrev pub made_created : Created → Made
made_created c = record { answer = flat_creation c.answer c.history.start; state = state_of c.history }

-- 1 first, 2 unchanged, 3 changed, with the newest serial, and the delta that was added
abbrev pub flat_update : Result Update Refusal → Serial → Answer
flat_update (Ok outcome.First) newest = wrote 1 newest (of_length 0)
flat_update (Ok outcome.Unchanged) newest = wrote 2 newest (of_length 0)
flat_update (Ok (outcome.Changed c)) newest = wrote 3 newest c
flat_update (Err r) newest = refused r

-- a refused or unchanged state is handed back as it was given
abbrev pub state_after : Result Update Refusal → State → Updated → State
state_after (Ok outcome.First) given r = state_of r.history
state_after (Ok outcome.Unchanged) given r = given
state_after (Ok (outcome.Changed c)) given r = state_of r.history
state_after (Err e) given r = given

abbrev pub made_updated : State → Updated → Made
made_updated given r = record { answer = flat_update r.answer r.history.newest; state = state_after r.answer given r }

-- 1 a delta, with the 16-bit session and the newest serial
abbrev pub flat_query : Result Counts Refusal → Serial → Answer
flat_query (Ok c) serial = wrote 1 serial c
flat_query (Err r) serial = refused r

abbrev pub told_queried : Queried → Told
told_queried q = record { session = q.session; answer = flat_query q.answer q.serial }

-- 1 the held snapshot, by its length
abbrev pub flat_full : Result ℕ Refusal → Serial → Answer
flat_full (Ok len) serial = wrote 1 serial (of_length len)
flat_full (Err r) serial = refused r

abbrev pub told_full : Full → Told
told_full f = record { session = f.session; answer = flat_full f.answer f.serial }

-- 1 the queries were answered, with the newest serial and the length that is used of the output
abbrev pub flat_list : Admitted → Serial → ℕ → Answer
flat_list (Ok tt) serial used = wrote 1 serial (of_length used)
flat_list (Err r) serial used = refused r

-- with the 16-bit session and a reply for each query
abbrev pub flat_replied : Replied → Replies
flat_replied r = record { answer = flat_list r.admitted r.serial r.used; session = r.session; count = r.count; replies = r.replies }
