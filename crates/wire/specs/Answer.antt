-- What the calls that write messages answer, and what they leave in the output.
use Rattle.std.specs.Prelude.{ℕ, [], map, cond, leb, length, Err, Ok, Result}
use Rattle.order.specs.Comparison.{bytes}
use Rattle.change.specs.Difference.{Delta, diff}
use Rattle.change.specs.Merge.{merge_all}
use Rattle.change.specs.History.{last_n}
use Rattle.serial.specs.declared.Serial.{Serial}
use Rattle.serial.specs.declared.Session.{Session}
use Rattle.serial.specs.declared.timing.Timing.{Timing}
use Rattle.serial.specs.Serial.{zero_serial, zero_session, distance_of, session_of}
use Rattle.serial.specs.Timing.{timing_of}
use Rattle.payload.specs.Content.{Bytes}
use Rattle.payload.specs.Payload.{items, changes}
use Rattle.payload.specs.Count.{announces, withdraws, sum_of}
use Rattle.payload.specs.Written.{written_if_room}
use Rattle.message.specs.declared.version.Version.{Version}
use Rattle.message.specs.Message.{serial_notify, serial_query, cache_reset, error_report, pdu, pdus}
use Rattle.message.specs.Say.{spoken, skipped, answer}
use Rattle.delta.specs.declared.refusal.Refusal.{Refusal}
use Rattle.delta.specs.declared.refusal.Refusal.TheVariants.{NoRoom, IllFormed}
use Rattle.past.specs.declared.state.History.{History}
use Rattle.past.specs.Store.{held_snapshot, held_deltas}
use Rattle.past.specs.WellFormed.{well_formed}
use Rattle.past.specs.Query.{is_served, is_session}
use Rattle.wire.specs.declared.tally.Tally.{Tally}
use Rattle.wire.specs.declared.frame.Frame.{Frame}
use Rattle.wire.specs.declared.sent.Sent.{Sent}
use Rattle.wire.specs.declared.sent.Reply.TheVariants as reply
use Rattle.wire.specs.declared.sent.Reply.{Reply}

-- what a history's answers name: the 16-bit session, F, and the times as `timing` hands them out
abbrev pub frame_of : History → Timing → Frame
frame_of h times = record { session = session_of h.session; serial = h.newest; times = timing_of times }

-- the bytes of a whole answer
abbrev pub answer_bytes : Version → Frame → Delta Bytes Bytes → Bytes
answer_bytes v f D = pdus v (answer v f.session.0 f.serial.0 f.times D)

-- their number; how many messages announce and withdraw; how many items there is no message for
abbrev pub tally_of : Version → Bytes → Delta Bytes Bytes → Tally
tally_of v b D = record {
  len = length b;
  announced = sum_of announces (spoken v D);
  withdrawn = sum_of withdraws (spoken v D);
  keys = skipped v 2 D;
  aspas = skipped v 3 D;
}

-- ---- what a call does: it is refused, or writes bytes and says so where there is room for all of them

pub data Plan : Type 0 where
  refuse : Refusal → Plan
  write : (written : Bytes) → Sent → Plan

-- an answer that names no session and no serial
abbrev pub aside : Result Reply Refusal → Sent
aside r = record { session = zero_session; serial = zero_serial; reply = r }

abbrev pub refused_with : Refusal → Sent
refused_with r = aside (Err r)

-- 4 if the bytes are more than the output lent
unfoldable pub sent_at : Plan → ℕ → Sent
sent_at (refuse r) room = refused_with r
sent_at (write b s) room = cond (leb (length b) room) s (refused_with NoRoom)

-- the output afterwards
unfoldable pub out_at : Plan → Bytes → Bytes
out_at (refuse r) out = out
out_at (write b s) out = written_if_room b out

-- Cache Response, the messages of a delta, End of Data
unfoldable pub data_plan : Version → Frame → Delta Bytes Bytes → Plan
data_plan v f D = write (answer_bytes v f D) (record { session = f.session; serial = f.serial; reply = Ok (reply.Data (tally_of v (answer_bytes v f D) D)) })

-- Cache Reset
unfoldable pub reset_plan : Version → Plan
reset_plan v = write (pdu v cache_reset) (aside (Ok (reply.Reset (length (pdu v cache_reset)))))

-- the Error Report that the RFC asks for where sessions differ: code 0, the Serial Query enclosed, no text
abbrev pub report_bytes : Version → Session → Serial → Bytes
report_bytes v session asked = pdu v (error_report 0 (pdu v (serial_query session.0 asked.0)) [])

unfoldable pub report_plan : Version → Session → Serial → Plan
report_plan v session asked = write (report_bytes v session asked) (aside (Ok (reply.Report (length (report_bytes v session asked)))))

-- ---- the calls

-- the deltas since a serial, merged, earliest first
abbrev pub changes_since : History → Serial → Bytes → Delta Bytes Bytes
changes_since h asked deltas = merge_all bytes bytes (map changes (last_n (distance_of h.newest asked) (held_deltas h deltas)))

-- 7; for another session the report; for a serial that is not served the reset; else what leads to the newest
unfoldable pub query_plan : Version → History → Session → Serial → Timing → Bytes → Bytes → Plan
query_plan v h session asked times snapshots deltas =
    cond (well_formed h snapshots deltas)
    (cond (is_session h session)
    (cond (is_served h.start h.n asked (distance_of h.newest asked)) (data_plan v (frame_of h times) (changes_since h asked deltas)) (reset_plan v))
    (report_plan v session asked))
    (refuse IllFormed)

-- every item of a snapshot announced
abbrev pub all_new : Bytes → Delta Bytes Bytes
all_new s = diff bytes bytes [] (items s)

-- 7; else the held snapshot
unfoldable pub full_plan : Version → History → Timing → Bytes → Bytes → Plan
full_plan v h times snapshots deltas =
    cond (well_formed h snapshots deltas) (data_plan v (frame_of h times) (all_new (held_snapshot h snapshots))) (refuse IllFormed)

-- the notice of F
abbrev pub notice_bytes : Version → History → Bytes
notice_bytes v h = pdu v (serial_notify (session_of h.session).0 h.newest.0)

unfoldable pub notify_plan : Version → History → Plan
notify_plan v h = write (notice_bytes v h) (record { session = session_of h.session; serial = h.newest; reply = Ok (reply.Data (tally_of v (notice_bytes v h) [])) })
