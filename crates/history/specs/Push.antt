-- What adding a delta makes of the lengths and of the delta store, part by part.
use Rattle.std.specs.Prelude.{ℕ, suc, ◌+◌, ◌-◌, ◌≤◌, ◌≡◌, List, [], ◌∷◌, ◌++◌, cond, eqb, length, take, drop, replicate}
use Rattle.serial.specs.Serial.{next_of}
use Rattle.body.specs.declared.tag.Form.TheVariants.{Snapshot}
use Rattle.payload.specs.Content.{Bytes}
use Rattle.delta.specs.Inputs.{Inputs}
use Rattle.delta.specs.Answer.{difference_of}
use Rattle.past.specs.declared.state.History.{History}
use Rattle.history.specs.declared.push.Kept.{Kept}
use Rattle.past.specs.Store.{total, state_with}
use Rattle.merged.specs.Place.{between}

-- one delta is dropped if n equals keep
unfoldable pub drops_of : History → ℕ
drops_of h = cond (eqb h.n h.keep) 1 0

-- the deltas that stay: the first of them, where its bytes start, and how many bytes they have
unfoldable pub kept_of : History → Kept
kept_of h = record {
  first = drops_of h;
  from = total (between h.deltas 0 (drops_of h));
  len = total (between h.deltas (drops_of h) h.n);
}

-- the 64 lengths once one is added behind those that stay: unused ones are 0
unfoldable pub lengths_with : List ℕ → ℕ → ℕ → ℕ → List ℕ
lengths_with lens first n len = (between lens first n ++ (len ∷ [])) ++ replicate (64 - suc (n - first)) 0

-- the state once a snapshot and a delta of these lengths are held
unfoldable pub grown_of : History → ℕ → ℕ → ℕ → History
grown_of h first snapshot delta = state_with h (next_of h.newest) (h.n - first + 1) snapshot (lengths_with h.deltas first h.n delta)

-- r is that state; its lengths came of 64
pub record Grows (h : History) (first snapshot delta : ℕ) (r : History) : Type 0 where
  pub is : r ≡ grown_of h first snapshot delta
  pub full : length h.deltas ≡ 64

-- the delta store once d lies behind the `kept` bytes that stood at `from`
unfoldable pub laid : ℕ → ℕ → Bytes → Bytes → Bytes
laid from kept d store = take kept (drop from store) ++ (d ++ drop (kept + length d) store)

-- keep and n are in range
pub record Ranged (h : History) : Type 0 where
  pub least : 1 ≤ h.keep
  pub most : h.keep ≤ 64
  pub count : h.n ≤ h.keep

-- a difference that has room behind the kept bytes
pub record Pushes (old new : Bytes) (from kept : ℕ) (store : Bytes) : Type 0 where
  pub inputs : Inputs Snapshot old Snapshot new
  pub within : from + kept ≤ length store
  pub room : kept + length (difference_of old new) ≤ length store
