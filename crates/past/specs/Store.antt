-- What a history holds in its two lent stores: from offset 0, without gaps.
use Rattle.std.specs.Prelude.{ℕ, ◌+◌, ◌-◌, List, [], ◌∷◌, ◌++◌, map, true, length, take, drop, replicate}
use Rattle.serial.specs.declared.Serial.{Serial}
use Rattle.payload.specs.Content.{Bytes}
use Rattle.past.specs.declared.state.History.{History}

-- the sum of lengths
abbrev pub total : List ℕ → ℕ
total [] = 0
total (k ∷ ks) = k + total ks

-- byte strings of these lengths, cut one behind the other
abbrev pub cuts : List ℕ → Bytes → List Bytes
cuts [] s = []
cuts (k ∷ ks) s = take k s ∷ cuts ks (drop k s)

-- byte strings laid one behind the other
abbrev pub joined : List Bytes → Bytes
joined [] = []
joined (d ∷ ds) = d ++ joined ds

-- the held snapshot
abbrev pub held_snapshot : History → Bytes → Bytes
held_snapshot h snapshots = take h.snapshot snapshots

-- the lengths of the n held deltas
abbrev pub held_lengths : History → List ℕ
held_lengths h = take h.n h.deltas

-- the held deltas, oldest first
abbrev pub held_deltas : History → Bytes → List Bytes
held_deltas h deltas = cuts (held_lengths h) deltas

-- the 64 lengths for these deltas: unused ones are 0
abbrev pub lengths_of : List Bytes → List ℕ
lengths_of ds = map length ds ++ replicate (64 - length ds) 0

-- an active history of the same session, keep and start serial, at this serial, by what it holds: n deltas of these lengths,
-- and a snapshot of this length
abbrev pub state_with : History → Serial → ℕ → ℕ → List ℕ → History
state_with h newest n snapshot lengths = record {
  session = h.session;
  keep = h.keep;
  active = true;
  newest = newest;
  start = h.start;
  n = n;
  snapshot = snapshot;
  deltas = lengths;
}

-- the same by the snapshot and the deltas themselves
abbrev pub holding_of : History → Serial → Bytes → List Bytes → History
holding_of h newest s ds = state_with h newest (length ds) (length s) (lengths_of ds)
