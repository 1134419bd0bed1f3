-- The query of a serial.
use Rattle.std.specs.Prelude.{ℕ, List, map, Bool, true, false, cond, leb, eqb, length, Err, Ok}
use Rattle.order.specs.Comparison.{bytes}
use Rattle.change.specs.Merge.{merge_all}
use Rattle.change.specs.History.{last_n}
use Rattle.serial.specs.declared.Serial.{Serial}
use Rattle.serial.specs.declared.Session.{Session}
use Rattle.serial.specs.Serial.{zero_serial, zero_session, distance_of, session_of}
use Rattle.body.specs.declared.tag.Form.TheVariants.{Delta}
use Rattle.payload.specs.Content.{Bytes}
use Rattle.payload.specs.Payload.{encode, changes}
use Rattle.delta.specs.declared.refusal.Refusal.{Refusal}
use Rattle.delta.specs.declared.refusal.Refusal.TheVariants.{NoRoom, OtherSession, NotServed, IllFormed}
use Rattle.delta.specs.Admission.{and_then}
use Rattle.delta.specs.Answer.{counts_of, out_after}
use Rattle.past.specs.declared.state.History.{History}
use Rattle.past.specs.declared.query.Queried.{Queried}
use Rattle.past.specs.Store.{held_deltas}
use Rattle.past.specs.WellFormed.{well_formed}
use Rattle.delta.specs.Admission.{Admitted}

-- with n deltas, is a serial served that is d steps before the newest: with n = 0 only the start serial is,
-- with n above 0 d from 0 to n
abbrev pub is_served : Serial → ℕ → Serial → ℕ → Bool
is_served start n asked d = cond (eqb n 0) (eqb asked.0 start.0) (leb d n)

-- the session must equal the history's modulo 65,536
abbrev pub is_session : History → Session → Bool
is_session h session = eqb session.0 (session_of h.session).0

-- a test that is passed, or its refusal
abbrev pub passes : Bool → Refusal → Admitted
passes true r = Ok tt
passes false r = Err r

-- 5, then 6
abbrev pub ask_admitted : History → Session → Serial → Admitted
ask_admitted h session asked =
    and_then (passes (is_session h session) OtherSession) (passes (is_served h.start h.n asked (distance_of h.newest asked)) NotServed)

-- 7, then 5 and 6
abbrev pub query_admitted : History → Session → Serial → Bytes → Bytes → Admitted
query_admitted h session asked snapshots deltas = and_then (passes (well_formed h snapshots deltas) IllFormed) (ask_admitted h session asked)

-- the last d deltas merged, earliest first; of none, the empty delta
unfoldable pub merged_last : ℕ → List Bytes → Bytes
merged_last d ds = encode Delta (merge_all bytes bytes (map changes (last_n d ds)))

-- the answer's bytes
abbrev pub answer_of : History → Serial → Bytes → Bytes
answer_of h asked deltas = merged_last (distance_of h.newest asked) (held_deltas h deltas)

-- refused: other numbers 0
abbrev pub refused_with : Refusal → Queried
refused_with r = record { session = zero_session; serial = zero_serial; answer = Err r }

-- the 16-bit session and F, and the answer's length and counts
abbrev pub served_with : History → Bytes → Queried
served_with h d = record { session = session_of h.session; serial = h.newest; answer = Ok (counts_of d) }

-- 4 if the answer is longer than the output lent
abbrev pub query_at : Admitted → History → Bytes → ℕ → Queried
query_at (Err r) h d room = refused_with r
query_at (Ok tt) h d room = cond (leb (length d) room) (served_with h d) (refused_with NoRoom)

-- history, session, serial, the two stores (which stay as they were), room
unfoldable pub query_of : History → Session → Serial → Bytes → Bytes → ℕ → Queried
query_of h session asked snapshots deltas room =
    query_at (query_admitted h session asked snapshots deltas) h (answer_of h asked deltas) room

-- the output afterwards
unfoldable pub query_out : History → Session → Serial → Bytes → Bytes → Bytes → Bytes
query_out h session asked snapshots deltas out =
    out_after (query_admitted h session asked snapshots deltas) (answer_of h asked deltas) out
