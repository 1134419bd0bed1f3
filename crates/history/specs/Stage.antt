-- How far an update has come: what each part of it may assume, and what it leaves.
use Rattle.std.specs.Prelude.{◌+◌, ◌≤◌, ◌≡◌, [], true, cond, length, Err, Ok}
use Rattle.body.specs.declared.tag.Form.TheVariants.{Snapshot}
use Rattle.payload.specs.Content.{Bytes}
use Rattle.delta.specs.declared.refusal.Refusal.TheVariants.{IllFormed}
use Rattle.item.specs.declared.sink.Counts.{Counts}
use Rattle.delta.specs.Admission.{admit_one_of}
use Rattle.delta.specs.Inputs.{Inputs}
use Rattle.delta.specs.Answer.{difference_of, counts_of}
use Rattle.past.specs.declared.state.History.{History}
use Rattle.history.specs.declared.push.Kept.{Kept}
use Rattle.past.specs.declared.update.Updated.{Updated}
use Rattle.past.specs.Store.{held_snapshot}
use Rattle.past.specs.WellFormed.{well_formed}
use Rattle.history.specs.Push.{kept_of}
use Rattle.past.specs.Update.{first_step, update_at, update_of, snapshots_at, update_snapshots, update_deltas}
use Rattle.delta.specs.Admission.{Admitted}

-- a good held snapshot and a good new one
pub record Compares (h : History) (new snapshots : Bytes) : Type 0 where
  pub within : h.snapshot ≤ length snapshots
  pub inputs : Inputs Snapshot (held_snapshot h snapshots) Snapshot new

-- 7, then 10, 1, 12 and 2 of the new snapshot
unfoldable pub update_admitted : History → Bytes → Bytes → Bytes → Admitted
update_admitted h new snapshots deltas = cond (well_formed h snapshots deltas) (admit_one_of Snapshot new) (Err IllFormed)

pub record Judged (h : History) (new snapshots deltas : Bytes) (r : Admitted) : Type 0 where
  pub is : r ≡ update_admitted h new snapshots deltas

-- a well-formed history gets a snapshot that is admitted
pub record Accepts (h : History) (new snapshots deltas : Bytes) : Type 0 where
  pub formed : well_formed h snapshots deltas ≡ true
  pub admitted : admit_one_of Snapshot new ≡ Ok tt

-- the history is active
pub record Renews (h : History) (new snapshots deltas : Bytes) : Type 0 where
  pub formed : well_formed h snapshots deltas ≡ true
  pub admitted : admit_one_of Snapshot new ≡ Ok tt
  pub active : h.active ≡ true

-- it is a change, and both stores have room
pub record Extends (h : History) (new snapshots deltas : Bytes) (counts : Counts) (kept : Kept) : Type 0 where
  pub renews : Renews h new snapshots deltas
  pub counted : counts ≡ counts_of (difference_of (held_snapshot h snapshots) new)
  pub some : counts.len ≡ 0 → ⊥
  pub fits : length new ≤ length snapshots
  pub stays : kept ≡ kept_of h
  pub room : kept.len + counts.len ≤ length deltas

-- the first snapshot, admitted
unfoldable pub first_of : History → Bytes → Bytes → Updated
first_of h new snapshots = update_at (first_step new snapshots) h new []

unfoldable pub first_store : Bytes → Bytes → Bytes
first_store new snapshots = snapshots_at (first_step new snapshots) new snapshots

-- an update's answer r, and both stores afterwards
pub record Does (h : History) (new s d : Bytes) (r : Updated) (s' d' : Bytes) : Type 0 where
  pub answer : r ≡ update_of h new s d
  pub snapshots : s' ≡ update_snapshots h new s d
  pub deltas : d' ≡ update_deltas h new s d

-- both stores after a change
pub record Stores (h : History) (new s d s' d' : Bytes) : Type 0 where
  pub snapshots : s' ≡ update_snapshots h new s d
  pub deltas : d' ≡ update_deltas h new s d
