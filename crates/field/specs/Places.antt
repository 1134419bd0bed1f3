-- What the places that the code keeps stand for in the bytes s.
use Rattle.std.specs.Prelude.{ℕ, ◌+◌, ◌≤◌, min, List, ◌∷◌, cond, eqb, length, drop}
use Rattle.number.specs.Bytes.{part}
use Rattle.body.specs.declared.tag.Form.{Form}
use Rattle.field.specs.declared.key.Key.{Key}
use Rattle.field.specs.Run.{Run}

-- a key's bytes lie in s
pub record KeyFits (s : List ℕ) (k : Key) : Type 0 where
  pub ordered : k.from ≤ k.to
  pub within : k.to ≤ length s

-- the key that a place stands for
abbrev pub key_in : List ℕ → Key → List ℕ
key_in s k = k.kind ∷ part s k.from k.to

-- the place of the key of a body that lies from `from` up to `to`: of an ASPA (kind 3) its first four bytes
abbrev pub key_place : ℕ → ℕ → ℕ → Key
key_place kind from to = record { kind = kind; from = from; to = cond (eqb kind 3) (min (from + 4) to) to }

-- the bytes of s from `at` on are a good run, behind some key
pub record GoodAt (form : Form) (s : List ℕ) (at : ℕ) : Type 0 where
  pub before : List ℕ
  pub run : Run form before (drop at s)
