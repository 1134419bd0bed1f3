-- The full answer, the notice and the active mark.
use Rattle.std.specs.Prelude.{Bool, cond, Err, Ok}
use Rattle.serial.specs.Serial.{zero_serial, zero_session, session_of}
use Rattle.payload.specs.Content.{Bytes}
use Rattle.delta.specs.declared.refusal.Refusal.TheVariants.{IllFormed}
use Rattle.past.specs.declared.state.History.{History}
use Rattle.past.specs.declared.full.Full.{Full}
use Rattle.past.specs.declared.notify.Notice.{Notice}
use Rattle.past.specs.WellFormed.{well_formed}

-- the 16-bit session, F and the length of the held snapshot, which is empty while inactive; refusal 7 alone
unfoldable pub full_of : History → Bytes → Bytes → Full
full_of h snapshots deltas =
    cond (well_formed h snapshots deltas)
    (record { session = session_of h.session; serial = h.newest; answer = Ok h.snapshot })
    (record { session = zero_session; serial = zero_serial; answer = Err IllFormed })

-- the 16-bit session and F
unfoldable pub notify_of : History → Notice
notify_of h = record { session = session_of h.session; serial = h.newest }

-- the active mark
unfoldable pub ready_of : History → Bool
ready_of h = h.active
