-- The start serial: no call changes it, answers depend on it in two places, and there 0 is as document 01 has it.
use Rattle.std.specs.Prelude.{ℕ, ◌%◌, ◌^◌, ◌≡◌, List, true, cond, leb, eqb}
use Rattle.serial.specs.declared.Serial.{Serial}
use Rattle.serial.specs.Serial.{zero_serial}
use Rattle.payload.specs.Content.{Bytes}
use Rattle.past.specs.declared.state.History.{History}
use Rattle.past.specs.WellFormed.{good_serial}
use Rattle.past.specs.Create.{create_of}
use Rattle.past.specs.Query.{is_served}
use Rattle.past.specs.Run.{World, Call, reply_of, step_of}
use Rattle.past.specs.Promise.{changes_in, serial_in}

-- the same history with another start serial
abbrev pub started_at : Serial → History → History
started_at start h = record {
  session = h.session;
  keep = h.keep;
  active = h.active;
  newest = h.newest;
  start = start;
  n = h.n;
  snapshot = h.snapshot;
  deltas = h.deltas;
}

abbrev pub world_at : Serial → World → World
world_at start w = record { history = started_at start w.history; snapshots = w.snapshots; deltas = w.deltas }

pub record Start : Type 0 where
  -- every call hands back the start serial that it was given
  pub kept : (w : World) (c : Call) → (step_of w c).history.start ≡ w.history.start
  -- two start serials get every call the same answer, and leave the same but for themselves, where they agree on
  -- refusal 7's condition on F and on the serial that is served with n = 0
  pub answers : (s t : Serial) (w : World) → good_serial (started_at s w.history) ≡ good_serial (started_at t w.history) →
      ((asked : Serial) (d : ℕ) → is_served s w.history.n asked d ≡ is_served t w.history.n asked d) →
      (c : Call) → (reply_of (world_at s w) c ≡ reply_of (world_at t w) c) × (world_at t (step_of (world_at s w) c) ≡ step_of (world_at t w) c)
  -- at 0 that condition is: inactive or n = 0 with F not 0
  pub formed : (h : History) → good_serial (started_at zero_serial h) ≡ cond h.active (cond (eqb h.n 0) (eqb h.newest.0 0) true) (eqb h.newest.0 0)
  -- and with n = 0 serial 0 is served
  pub served : (n : ℕ) (asked : Serial) (d : ℕ) → is_served zero_serial n asked d ≡ cond (eqb n 0) (eqb asked.0 0) (leb d n)
  -- creation at 0, done or refused: F is 0
  pub created : (session keep : ℕ) (snapshots deltas : Bytes) →
      ((create_of session keep zero_serial snapshots deltas).history.start ≡ zero_serial) × ((create_of session keep zero_serial snapshots deltas).history.newest ≡ zero_serial)
  -- F is the count of changes modulo 2^32
  pub serial : (given : List Bytes) → serial_in zero_serial given ≡ record { 0 = changes_in given % 2 ^ 32 }
