-- Creation.
use Rattle.std.specs.Prelude.{ℕ, [], false, cond, Err, Ok}
use Rattle.serial.specs.declared.Serial.{Serial}
use Rattle.serial.specs.Serial.{zero_serial}
use Rattle.body.specs.declared.tag.Form.TheVariants.{Snapshot, Delta}
use Rattle.payload.specs.Content.{Bytes}
use Rattle.delta.specs.declared.refusal.Refusal.TheVariants.{BadKeep}
use Rattle.delta.specs.Admission.{and_then, limit_admitted}
use Rattle.past.specs.declared.state.History.{History}
use Rattle.past.specs.declared.create.Created.{Created}
use Rattle.past.specs.Store.{lengths_of}
use Rattle.past.specs.WellFormed.{good_keep}
use Rattle.delta.specs.Admission.{Admitted}

-- inactive, n = 0, F the start serial, nothing held
abbrev pub fresh_of : ℕ → ℕ → Serial → History
fresh_of session keep start = record {
  session = session;
  keep = keep;
  active = false;
  newest = start;
  start = start;
  n = 0;
  snapshot = 0;
  deltas = lengths_of [];
}

-- 8 if keep is not 1 to 64, then 10 if a store is over its length limit
abbrev pub create_admitted : ℕ → Bytes → Bytes → Admitted
create_admitted keep snapshots deltas =
    and_then (cond (good_keep keep) (Ok tt) (Err BadKeep)) (and_then (limit_admitted Snapshot snapshots 1) (limit_admitted Delta deltas 2))

-- a fresh history, or a history of zeros
abbrev pub create_at : Admitted → ℕ → ℕ → Serial → Created
create_at (Ok tt) session keep start = record { answer = Ok tt; history = fresh_of session keep start }
create_at (Err r) session keep start = record { answer = Err r; history = fresh_of 0 0 zero_serial }

-- session, keep, start serial, the two stores (which stay as they were)
unfoldable pub create_of : ℕ → ℕ → Serial → Bytes → Bytes → Created
create_of session keep start snapshots deltas = create_at (create_admitted keep snapshots deltas) session keep start
