-- What is laid into a store is what is cut out of it.
use Prim.Native.Nat.{ℕ, ◌+◌, ◌-◌, ◌≤◌}
use mathlib.Core.Path.{◌≡◌, refl, ap, ◌∙◌}
use mathlib.Core.List.{List, [], ◌∷◌, ◌++◌, map, append_assoc}
use native.Mathlib.Omega.{arith}
use lib.ListN.{length, drop, replicate, length-append, length-drop, length-map}
use lib.Seq.{take_at, take-append_seam, drop-append_seam}
use Rattle.payload.specs.Content.{Bytes}
use Rattle.past.specs.declared.state.History.{History}
use Rattle.past.specs.Store.{total, cuts, joined, held_lengths, held_deltas}
use Rattle.payload.specs.Written.{written_over}
use Rattle.past.specs.Update.{next_state}

pub cuts_joined : (ds : List Bytes) (s : Bytes) → cuts (map length ds) (joined ds ++ s) ≡ ds
cuts_joined [] s = refl
cuts_joined (d ∷ ds) s =
    rw (append_assoc d (joined ds) s, take-append_seam d (joined ds ++ s), drop-append_seam d (joined ds ++ s))
    (ap (λ (l : List Bytes). d ∷ l) (cuts_joined ds s))

pub joined_length : (ds : List Bytes) → length (joined ds) ≡ total (map length ds)
joined_length [] = refl
joined_length (d ∷ ds) = length-append d (joined ds) ∙ ap (λ (n : ℕ). length d + n) (joined_length ds)

pub cuts_length : (ks : List ℕ) (s : Bytes) → length (cuts ks s) ≡ length ks
cuts_length [] s = refl
cuts_length (k ∷ ks) s = rw (cuts_length ks (drop k s))

-- a store keeps its length
pub store_length : (s store : Bytes) → length s ≤ length store → length (written_over s store) ≡ length store
store_length s store h = simp (length-append, length-drop) (omega arith)

module _ (h : History) (new : Bytes) (ds : List Bytes) where
  -- the lengths held are those of the deltas
  pub next_lengths : held_lengths (next_state h new ds) ≡ map length ds
  next_lengths = take_at (map length ds) (replicate (64 - length ds) 0) (length ds) (length-map ds length)

  pub next_deltas : (s : Bytes) → held_deltas (next_state h new ds) (joined ds ++ s) ≡ ds
  next_deltas s = rw next_lengths (cuts_joined ds s)
