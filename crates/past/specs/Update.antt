-- An update with a new snapshot.
use Rattle.std.specs.Prelude.{ℕ, List, [], ◌∷◌, ◌++◌, map, cond, ◌&&◌, leb, eqb, length, drop, Err, Ok}
use Rattle.serial.specs.Serial.{next_of}
use Rattle.body.specs.declared.tag.Form.TheVariants.{Snapshot}
use Rattle.payload.specs.Content.{Bytes}
use Rattle.delta.specs.declared.refusal.Refusal.{Refusal}
use Rattle.delta.specs.declared.refusal.Refusal.TheVariants.{IllFormed, StoreFull}
use Rattle.delta.specs.Admission.{admit_one_of}
use Rattle.delta.specs.Answer.{difference_of, counts_of}
use Rattle.past.specs.declared.state.History.{History}
use Rattle.past.specs.declared.update.Updated.{Updated}
use Rattle.past.specs.Store.{total, joined, held_snapshot, held_deltas, holding_of}
use Rattle.payload.specs.Written.{written_over}
use Rattle.past.specs.WellFormed.{well_formed}
use Rattle.delta.specs.Admission.{Admitted}
use Rattle.past.specs.declared.update.Update.TheVariants as outcome

-- what an update does: it is refused, is the first, changes nothing, or adds a delta
pub data Step : Type 0 where
  refuse : Refusal → Step
  first : Step
  unchanged : Step
  add : (delta : Bytes) → Step

-- the deltas held once d is added: the oldest is dropped first if n equals keep
abbrev pub pushed : {A : Type 0} → ℕ → ℕ → List A → A → List A
pushed n keep ds d = cond (eqb n keep) (drop 1 ds) ds ++ (d ∷ [])

abbrev pub deltas_with : History → Bytes → Bytes → List Bytes
deltas_with h deltas d = pushed h.n h.keep (held_deltas h deltas) d

-- the first snapshot: 9 if it is longer than its store
abbrev pub first_step : Bytes → Bytes → Step
first_step new snapshots = cond (leb (length new) (length snapshots)) first (refuse StoreFull)

-- a later one, with the difference d: 9 if it is longer than its store, or the deltas that would then be held
-- sum to more than the delta store's length
abbrev pub later_step : History → Bytes → Bytes → Bytes → Bytes → Step
later_step h d new snapshots deltas =
    cond (eqb (length d) 0) unchanged
    (cond (leb (length new) (length snapshots) && leb (total (map length (deltas_with h deltas d))) (length deltas))
    (add d)
    (refuse StoreFull))

-- 7, then 10, 1, 12 and 2 of the new snapshot, then 9
abbrev pub admitted_step : Admitted → History → Bytes → Bytes → Bytes → Step
admitted_step (Err r) h new snapshots deltas = refuse r
admitted_step (Ok tt) h new snapshots deltas =
    cond h.active (later_step h (difference_of (held_snapshot h snapshots) new) new snapshots deltas) (first_step new snapshots)

unfoldable pub step_for : History → Bytes → Bytes → Bytes → Step
step_for h new snapshots deltas =
    cond (well_formed h snapshots deltas) (admitted_step (admit_one_of Snapshot new) h new snapshots deltas) (refuse IllFormed)

-- the new snapshot is current, and the serial stays
abbrev pub first_state : History → Bytes → History
first_state h new = holding_of h h.newest new []

-- the new snapshot is current, these deltas are held, and the serial is the one after
abbrev pub next_state : History → Bytes → List Bytes → History
next_state h new ds = holding_of h (next_of h.newest) new ds

abbrev pub update_at : Step → History → Bytes → Bytes → Updated
update_at (refuse r) h new deltas = record { answer = Err r; history = h }
update_at first h new deltas = record { answer = Ok outcome.First; history = first_state h new }
update_at unchanged h new deltas = record { answer = Ok outcome.Unchanged; history = h }
update_at (add d) h new deltas = record { answer = Ok (outcome.Changed (counts_of d)); history = next_state h new (deltas_with h deltas d) }

-- history, new snapshot, the two stores
unfoldable pub update_of : History → Bytes → Bytes → Bytes → Updated
update_of h new snapshots deltas = update_at (step_for h new snapshots deltas) h new deltas

-- the snapshot store afterwards
abbrev pub snapshots_at : Step → Bytes → Bytes → Bytes
snapshots_at (refuse r) new snapshots = snapshots
snapshots_at first new snapshots = written_over new snapshots
snapshots_at unchanged new snapshots = snapshots
snapshots_at (add d) new snapshots = written_over new snapshots

unfoldable pub update_snapshots : History → Bytes → Bytes → Bytes → Bytes
update_snapshots h new snapshots deltas = snapshots_at (step_for h new snapshots deltas) new snapshots

-- the delta store afterwards
abbrev pub deltas_at : Step → History → Bytes → Bytes
deltas_at (refuse r) h deltas = deltas
deltas_at first h deltas = deltas
deltas_at unchanged h deltas = deltas
deltas_at (add d) h deltas = written_over (joined (deltas_with h deltas d)) deltas

unfoldable pub update_deltas : History → Bytes → Bytes → Bytes → Bytes
update_deltas h new snapshots deltas = deltas_at (step_for h new snapshots deltas) h deltas
