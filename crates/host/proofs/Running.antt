-- A run of the exported calls is the run of the same calls on a history.
use Prim.Native.Nat.{ℕ}
use mathlib.Core.Path.{◌≡◌, refl, ap, ◌∙◌}
use mathlib.Core.List.{List, [], ◌∷◌}
use mathlib.Core.Bool.{Bool, true, false, not}
use lib.Dec.{eqb}
use lib.ListN.{length}
use Rattle.order.proofs.Never.{never}
use Rattle.serial.specs.declared.Serial.{Serial}
use Rattle.payload.specs.Content.{Bytes}
use Rattle.past.specs.declared.state.History.{History}
use Rattle.past.specs.Create.{create_of}
use Rattle.past.specs.Update.{Step, refuse, first, unchanged, add, step_for, update_at, update_of, update_snapshots, update_deltas}
use Rattle.past.specs.Query.{query_of, query_out}
use Rattle.past.specs.Full.{full_of, notify_of, ready_of}
use Rattle.past.specs.Run.{onward, World, Call, update, query, full, notify, ready, reply_of, step_of, Reached, start_of, run_of}
use Rattle.past.specs.Promise.{Promise}
use Rattle.past.proofs.Runs as past
use Rattle.host.specs.declared.state.State.{State}
use Rattle.host.specs.Told.{flat_creation, state_after, made_updated, told_queried, told_full}
use Rattle.host.specs.State.{history_of, mark_of, state_of}
use Rattle.host.specs.Run.{Kept, answer, told, whole, notice, mark, handed_of, kept_after, created_kept, kept_run, flat_reply, Hosted, EveryHosted}
use Rattle.delta.specs.Admission.{Admitted}
use Rattle.std.specs.Prelude.{Err, Ok}

-- an active mark is handed back as it was
mark_back : (b : Bool) → not (eqb (mark_of b) 0) ≡ b
mark_back true = refl
mark_back false = refl

-- a history's state is that history
pub history_back : (h : History) → history_of (state_of h) ≡ h
history_back h = λ i. record {
  session = h.session;
  keep = h.keep;
  active = mark_back h.active i;
  newest = h.newest;
  start = h.start;
  n = h.n;
  snapshot = h.snapshot;
  deltas = h.deltas;
}

-- what the host keeps of a history with its stores
abbrev kept_of : World → Kept
kept_of w = record { state = state_of w.history; snapshots = w.snapshots; deltas = w.deltas }

module _ (w : World) where
  -- a call hands back what the history answers
  call_handed : (c : Call) → handed_of (kept_of w) c ≡ flat_reply (step_of w c) (reply_of w c)
  call_handed (update new) = ap (λ (h : History). answer (made_updated (state_of w.history) (update_of h new w.snapshots w.deltas)).answer) (history_back w.history)
  call_handed (query s asked out) =
      ap (λ (h : History). told (told_queried (query_of h s asked w.snapshots w.deltas (length out))) (query_out h s asked w.snapshots w.deltas out))
      (history_back w.history)
  call_handed full = ap (λ (h : History). whole (told_full (full_of h w.snapshots w.deltas))) (history_back w.history)
  call_handed notify = ap (λ (h : History). notice (notify_of h)) (history_back w.history)
  call_handed ready = ap (λ (h : History). mark (ready_of h)) (history_back w.history)

  -- the state after an update is the history's, also where it is handed back as it was given
  update_state : (new : Bytes) →
      state_after (update_of w.history new w.snapshots w.deltas).answer (state_of w.history) (update_of w.history new w.snapshots w.deltas)
      ≡ state_of (update_of w.history new w.snapshots w.deltas).history
  unfolding update_of
  update_state new = go (step_for w.history new w.snapshots w.deltas)
    where
      go : (s : Step) → state_after (update_at s w.history new w.deltas).answer (state_of w.history) (update_at s w.history new w.deltas)
          ≡ state_of (update_at s w.history new w.deltas).history
      go (refuse r) = refl
      go first = refl
      go unchanged = refl
      go (add d) = refl

  kept_path : {s t : State} {a b x y : Bytes} → s ≡ t → a ≡ b → x ≡ y →
      ◌≡◌ {A = Kept} (record { state = s; snapshots = a; deltas = x }) (record { state = t; snapshots = b; deltas = y })
  kept_path p q r = λ i. record { state = p i; snapshots = q i; deltas = r i }

  -- and leaves what the history's call leaves
  call_kept : (c : Call) → kept_after (kept_of w) c ≡ kept_of (step_of w c)
  call_kept (update new) =
      kept_path
      (ap (λ (h : History). (made_updated (state_of w.history) (update_of h new w.snapshots w.deltas)).state) (history_back w.history) ∙ update_state new)
      (ap (λ (h : History). update_snapshots h new w.snapshots w.deltas) (history_back w.history))
      (ap (λ (h : History). update_deltas h new w.snapshots w.deltas) (history_back w.history))
  call_kept (query s asked out) = refl
  call_kept full = refl
  call_kept notify = refl
  call_kept ready = refl

-- so does a run
run_kept : (r : Reached) (calls : List Call) → kept_run (kept_of r.world) calls ≡ kept_of (run_of r calls).world
run_kept r [] = refl
run_kept r (c ∷ calls) = ap (λ (k : Kept). kept_run k calls) (call_kept r.world c) ∙ run_kept (onward r c) calls

hosted_at : (session keep : ℕ) (start : Serial) (k : Kept) (r : Reached) → Promise session keep start r → k ≡ kept_of r.world → Hosted session keep start k r
hosted_at session keep start k r p e = record {
  promise = p;
  history = ap (λ (x : Kept). history_of x.state) e ∙ history_back r.world.history;
  snapshots = ap (λ (x : Kept). x.snapshots) e;
  deltas = ap (λ (x : Kept). x.deltas) e;
  handed = λ c. ap (λ (x : Kept). handed_of x c) e ∙ call_handed r.world c;
}

-- kind 1 says that the history was created
done_of : (c : Admitted) (start : Serial) → (flat_creation c start).kind ≡ 1 → c ≡ Ok tt
done_of (Ok tt) start e = refl
done_of (Err r) start e = never e

-- demand 3, second part, over every run of the exported calls from a taplevung_create that answers kind 1
pub hosted : EveryHosted
hosted session keep start snapshots deltas bound e calls octets =
    hosted_at session keep start (kept_run (created_kept session keep start snapshots deltas) calls) (run_of (start_of session keep start snapshots deltas) calls)
    (past.promise session keep start snapshots deltas bound (done_of (create_of session keep start snapshots deltas).answer (create_of session keep start snapshots deltas).history.start e) calls octets)
    (run_kept (start_of session keep start snapshots deltas) calls)
