-- No call changes the start serial; answers depend on it in two places; there 0 is as document 01 has it.
use Prim.Native.Nat.{ℕ, ◌+◌, ◌%◌, ◌^◌}
use mathlib.Core.Path.{◌≡◌, refl}
use native.Mathlib.Omega.{arith}
use lib.ListN.{length}
use Rattle.serial.specs.declared.Serial.{Serial}
use Rattle.serial.specs.Serial.{zero_serial, distance_of}
use Rattle.serial.proofs.Steps.{same_serial}
use Rattle.body.specs.declared.tag.Form.TheVariants.{Snapshot}
use Rattle.payload.specs.Content.{Bytes}
use Rattle.delta.specs.Admission.{admit_one_of}
use Rattle.delta.specs.Answer.{out_after}
use Rattle.past.specs.declared.state.History.{History}
use Rattle.past.specs.WellFormed.{good_serial, well_formed}
use Rattle.past.specs.Create.{create_admitted, create_at, create_of}
use Rattle.past.specs.Update.{Step, refuse, first, unchanged, add, admitted_step, step_for, update_at, update_of, snapshots_at, update_snapshots, deltas_at, update_deltas}
use Rattle.past.specs.Query.{is_served, query_admitted, answer_of, query_at, query_of, query_out}
use Rattle.past.specs.Full.{full_of, notify_of, ready_of}
use Rattle.past.specs.Run.{World, Call, update, query, full, notify, ready, updated, queried, reply_of, step_of}
use Rattle.past.specs.Promise.{changes_in}
use Rattle.past.specs.Start.{started_at, world_at, Start}
use Rattle.delta.specs.Admission.{Admitted}
use Rattle.std.specs.Prelude.{Err, Ok}

start_kept : (w : World) (c : Call) → (step_of w c).history.start ≡ w.history.start
unfolding update_of
start_kept w (update new) = go (step_for w.history new w.snapshots w.deltas)
  where
    go : (s : Step) → (update_at s w.history new w.deltas).history.start ≡ w.history.start
    go (refuse r) = refl
    go first = refl
    go unchanged = refl
    go (add d) = refl
start_kept w (query session asked out) = refl
start_kept w full = refl
start_kept w notify = refl
start_kept w ready = refl

module _ (s t : Serial) (w : World) (e : good_serial (started_at s w.history) ≡ good_serial (started_at t w.history))
    (f : (asked : Serial) (d : ℕ) → is_served s w.history.n asked d ≡ is_served t w.history.n asked d) where
  same_formed : well_formed (started_at s w.history) w.snapshots w.deltas ≡ well_formed (started_at t w.history) w.snapshots w.deltas
  unfolding well_formed
  same_formed = rw e

  same_step : (new : Bytes) → step_for (started_at s w.history) new w.snapshots w.deltas ≡ step_for (started_at t w.history) new w.snapshots w.deltas
  unfolding step_for
  same_step new = rw (same_formed, admitted (admit_one_of Snapshot new))
    where
      admitted : (a : Admitted) → admitted_step a (started_at s w.history) new w.snapshots w.deltas ≡ admitted_step a (started_at t w.history) new w.snapshots w.deltas
      admitted (Ok tt) = refl
      admitted (Err r) = refl

  -- what a step answers and leaves
  answered : (new : Bytes) (x : Step) → (update_at x (started_at s w.history) new w.deltas).answer ≡ (update_at x (started_at t w.history) new w.deltas).answer
  answered new (refuse r) = refl
  answered new first = refl
  answered new unchanged = refl
  answered new (add d) = refl

  left : (new : Bytes) (x : Step) →
      ◌≡◌ {A = World} (world_at t (record {
        history = (update_at x (started_at s w.history) new w.deltas).history;
        snapshots = snapshots_at x new w.snapshots;
        deltas = deltas_at x (started_at s w.history) w.deltas;
      })) (record {
        history = (update_at x (started_at t w.history) new w.deltas).history;
        snapshots = snapshots_at x new w.snapshots;
        deltas = deltas_at x (started_at t w.history) w.deltas;
      })
  left new (refuse r) = refl
  left new first = refl
  left new unchanged = refl
  left new (add d) = refl

  -- what a query gets that is admitted or not
  asked_at : (a : Admitted) (d : Bytes) (room : ℕ) → query_at a (started_at s w.history) d room ≡ query_at a (started_at t w.history) d room
  asked_at (Ok tt) d room = refl
  asked_at (Err r) d room = refl

  same_answers : (c : Call) → (reply_of (world_at s w) c ≡ reply_of (world_at t w) c) × (world_at t (step_of (world_at s w) c) ≡ step_of (world_at t w) c)
  unfolding update_of update_snapshots update_deltas query_of query_out full_of notify_of ready_of
  same_answers (update new) = (
    rw (same_step new) (λ i. updated (answered new (step_for (started_at t w.history) new w.snapshots w.deltas) i)),
    rw (same_step new) (left new (step_for (started_at t w.history) new w.snapshots w.deltas)),
  )
  same_answers (query session asked out) =
      let h : History = started_at t w.history in
      let a : Admitted = query_admitted h session asked w.snapshots w.deltas in
      let d : Bytes = answer_of h asked w.deltas in (
        rw (same_formed, f asked (distance_of w.history.newest asked)) (λ i. queried (asked_at a d (length out) i) (out_after a d out)),
        refl,
      )
  same_answers full = (rw same_formed, refl)
  same_answers notify = (refl, refl)
  same_answers ready = (refl, refl)

created_zero : (session keep : ℕ) (a : Admitted) → ((create_at a session keep zero_serial).history.start ≡ zero_serial) × ((create_at a session keep zero_serial).history.newest ≡ zero_serial)
created_zero session keep (Ok tt) = (refl, refl)
created_zero session keep (Err r) = (refl, refl)

pub start : Start
unfolding create_of
start = record {
  kept = start_kept;
  answers = same_answers;
  formed = λ h. refl;
  served = λ n asked d. refl;
  created = λ session keep snapshots deltas. created_zero session keep (create_admitted keep snapshots deltas);
  serial = λ given. same_serial {m = (0 + changes_in given) % 2 ^ 32} (omega arith);
}
