-- What a history holds of the snapshots that it was given: first S, then those of Ts.
use Rattle.std.specs.Prelude.{List, [], ◌∷◌, ℕ, zero, suc}
use Rattle.std.specs.declared.cmp.Ordering.{Ordering}
use Rattle.change.specs.Difference.{Snapshot, Delta, diff}
use Rattle.change.specs.History.{last_n}

-- the i-th snapshot, counted from 0 (the newest, where there are fewer)
abbrev pub nth : {S : Type 0} → ℕ → S → List S → S
nth zero S Ts = S
nth (suc i) S [] = S
nth (suc i) S (T ∷ Ts) = nth i T Ts

module _ {K W : Type 0} (cmp : K → K → Ordering) (val : W → W → Ordering) where
  -- the differences from each snapshot to the next
  abbrev pub diffs : Snapshot K W → List (Snapshot K W) → List (Delta K W)
  diffs S [] = []
  diffs S (T ∷ Ts) = diff cmp val S T ∷ diffs T Ts

  -- the deltas held, oldest first, with this many kept
  abbrev pub held : ℕ → Snapshot K W → List (Snapshot K W) → List (Delta K W)
  held keep S Ts = last_n keep (diffs S Ts)
