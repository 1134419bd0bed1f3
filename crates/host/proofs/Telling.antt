-- Laws of what the calls on a history hand back.
use Prim.Native.Nat.{ℕ}
use mathlib.Core.Path.{◌≡◌, ap, ◌∙◌}
use Rattle.serial.specs.declared.Serial.{Serial}
use Rattle.delta.specs.declared.refusal.Refusal.{Refusal}
use Rattle.item.specs.declared.sink.Counts.{Counts}
use Rattle.host.specs.declared.answer.Answer.{Answer}
use Rattle.host.specs.Flat.{refused, wrote, of_length}
use Rattle.host.specs.Told.{flat_creation}
use Rattle.delta.specs.Admission.{Admitted}
use Rattle.std.specs.Prelude.{Err}

-- an answer with no counts
of_length_lem : (kind n : ℕ) (s : Serial) (k : Counts) (a : Answer) → k ≡ of_length n → a ≡ wrote kind s k → a ≡ wrote kind s (of_length n)
of_length_lem kind n s k a d q = q ∙ ap (wrote kind s) d

module _ (c : Admitted) (start : Serial) (a : Answer) where
  pub creation_refused : (r : Refusal) → c ≡ Err r → a ≡ refused r → a ≡ flat_creation c start
  creation_refused r e q = rw e q
