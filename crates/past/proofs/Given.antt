-- The snapshots that a run of calls was given are good and within their limit.
use Prim.Native.Nat.{ℕ}
use mathlib.Core.Path.{◌≡◌, refl}
use mathlib.Core.List.{List, [], ◌∷◌}
use mathlib.Core.Option.{Option, none, some}
use mathlib.Core.Bool.{Bool, true, false, cond}
use lib.Dec.{eqb}
use Rattle.order.specs.Map.{All}
use Rattle.order.proofs.Map.{none≢some}
use Rattle.change.proofs.Chain.{all_newest}
use Rattle.serial.specs.declared.Serial.{Serial}
use Rattle.serial.specs.Serial.{next_of}
use Rattle.payload.specs.Content.{Bytes}
use Rattle.delta.specs.Demand.{GoodSnapshot, Acceptable}
use Rattle.past.specs.Update.{Step, refuse, first, unchanged, add, step_for, update_at, update_of}
use Rattle.past.specs.Run.{World, Call, update, query, full, notify, ready, given_by, given_after, Reached, onward, run_of, or_last, carried}
use Rattle.past.specs.Promise.{OfBytes, current, Promise}
use Rattle.past.proofs.Lists.{all_push}
use Rattle.past.proofs.Steps.{step_add, step_first}

given_step : (w : World) (c : Call) (given : List Bytes) → OfBytes c → All Acceptable given → All Acceptable (given_after w c given)
unfolding update_of
given_step w (update new) given o h = go (step_for w.history new w.snapshots w.deltas) refl
  where
    go : (s : Step) → step_for w.history new w.snapshots w.deltas ≡ s →
        All Acceptable (given_by (update_at s w.history new w.deltas).answer new given)
    go (refuse r) e = h
    go first e =
        let f = step_first w.history new w.snapshots w.deltas e in
        all_push Acceptable given new h (record { good = record { octets = o; fine = f.fine }; short = f.short })
    go unchanged e = h
    go (add d) e =
        let f = step_add w.history new w.snapshots w.deltas d e in
        all_push Acceptable given new h (record { good = record { octets = o; fine = f.fine }; short = f.short })
given_step w (query session asked out) given o h = h
given_step w full given o h = h
given_step w notify given o h = h
given_step w ready given o h = h

pub given_acceptable : (r : Reached) (calls : List Call) → All OfBytes calls → All Acceptable r.given → All Acceptable (run_of r calls).given
given_acceptable r [] o h = h
given_acceptable r (c ∷ calls) o h = given_acceptable (onward r c) calls o.1 (given_step r.world c r.given o.0 h)

all_good : (ss : List Bytes) → All Acceptable ss → All GoodSnapshot ss
all_good [] h = tt
all_good (s ∷ ss) h = (h.0.good, all_good ss h.1)

pub given_good : (r : Reached) (calls : List Call) → All OfBytes calls → All Acceptable r.given → All GoodSnapshot (run_of r calls).given
given_good r calls o h = all_good (run_of r calls).given (given_acceptable r calls o h)

-- so is the one that carried a serial
pub all_carried : (P : Bytes → Type 0) (serial asked : Serial) (ss : List Bytes) (base : Bytes) → All P ss → carried serial asked ss ≡ some base → P base
all_carried P serial asked [] base h e = none≢some refl e
all_carried P serial asked (s ∷ ss) base h e =
    go (carried (next_of serial) asked ss) (λ x. all_carried P (next_of serial) asked ss x h.1) e
  where
    here : (t : Bool) → cond {A = Option Bytes} t (some s) none ≡ some base → P base
    here true e = let q : s ≡ base = cc in rw (← q) h.0
    here false e = none≢some refl e

    go : (o : Option Bytes) → ((x : Bytes) → o ≡ some x → P x) → or_last o (cond (eqb serial.0 asked.0) (some s) none) ≡ some base → P base
    go none i e = here (eqb serial.0 asked.0) e
    go (some x) i e = i base e

-- and the current one
module _ (session keep : ℕ) (start : Serial) (r : Reached) (p : Promise session keep start r) (goods : All GoodSnapshot r.given) where
  pub good_current : ¬ (r.given ≡ []) → GoodSnapshot (current r.world)
  good_current n = go r.given refl goods
    where
      go : (given : List Bytes) → r.given ≡ given → All GoodSnapshot given → GoodSnapshot (current r.world)
      go [] e h = absurd (n e)
      go (S ∷ Ts) e h = rw (p.newest_current S Ts e) (all_newest GoodSnapshot S Ts h.0 h.1)
