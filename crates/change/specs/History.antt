-- The last of a list, and the newest of a chain of snapshots: first S, then those of Ts.
use Rattle.std.specs.Prelude.{List, [], ◌∷◌, ℕ, ◌-◌, length, drop}

-- the last n of a list, or all of it
abbrev pub last_n : {A : Type 0} → ℕ → List A → List A
last_n n l = drop (length l - n) l

-- the newest snapshot
abbrev pub newest : {S : Type 0} → S → List S → S
newest S [] = S
newest S (T ∷ Ts) = newest T Ts
