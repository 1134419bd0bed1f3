-- Laws of creation, the full answer and the notice.
use Prim.Native.Nat.{ℕ}
use mathlib.Core.Path.{◌≡◌, refl}
use mathlib.Core.Bool.{Bool, true, false, not}
use lib.Dec.{leb}
use lib.ListN.{length}
use borrow.Author.Tests.{not-true, not-false}
use Rattle.serial.specs.declared.Serial.{Serial}
use Rattle.serial.specs.declared.Session.{Session}
use Rattle.serial.specs.Serial.{zero_serial, zero_session, session_of}
use Rattle.body.specs.declared.tag.Form.TheVariants.{Snapshot, Delta}
use Rattle.payload.specs.Content.{Bytes}
use Rattle.payload.specs.Limit.{limit}
use Rattle.delta.specs.declared.refusal.Refusal.{Refusal}
use Rattle.delta.specs.declared.refusal.Refusal.TheVariants.{IllFormed}
use Rattle.past.specs.declared.state.History.{History}
use Rattle.past.specs.WellFormed.{good_keep, well_formed}
use Rattle.past.specs.Create.{fresh_of, create_admitted, create_of}
use Rattle.past.specs.Full.{full_of, notify_of, ready_of}
use Rattle.delta.specs.Admission.{Admitted}
use Rattle.std.specs.Prelude.{Err, Ok}

-- ---- creation

module _ (keep : ℕ) (s d : Bytes) (t : Bool) (e : t ≡ good_keep keep) where
  module _ (q : not t ≡ false) (u : Bool) (f : u ≡ leb (length s) (limit Snapshot)) where
    module _ (p : not u ≡ false) (w : Bool) (g : w ≡ leb (length d) (limit Delta)) where
      pub create_admitted_lem : not w ≡ false → (Ok tt) ≡ create_admitted keep s d
      create_admitted_lem r = rw (← e, ← f, ← g, not-false t q, not-false u p, not-false w r)

module _ (session keep : ℕ) (start : Serial) (s d : Bytes) (x : Admitted) (e : x ≡ create_admitted keep s d) where
  pub create_refused : (r : Refusal) (h : History) → x ≡ Err r → h ≡ fresh_of 0 0 zero_serial → record { answer = Err r; history = h } ≡ create_of session keep start s d
  unfolding create_of
  create_refused r h q p = rw (← e, q, p)

  pub create_done : (h : History) → x ≡ Ok tt → h ≡ fresh_of session keep start → record { answer = Ok tt; history = h } ≡ create_of session keep start s d
  unfolding create_of
  create_done h q p = rw (← e, q, p)

pub ruleset creating = (create_refused, create_done)

-- ---- the full answer

module _ (h : History) (s d : Bytes) (t : Bool) (e : t ≡ well_formed h s d) where
  pub full_refused : not t ≡ true → record { session = zero_session; serial = zero_serial; answer = Err IllFormed } ≡ full_of h s d
  unfolding full_of
  full_refused q = rw (← e, not-true t q)

  pub full_held : (k : ℕ) (x : Session) → not t ≡ false → k ≡ h.snapshot → x ≡ session_of h.session →
      record { session = x; serial = h.newest; answer = Ok k } ≡ full_of h s d
  unfolding full_of
  full_held k x q l m = rw (← e, not-false t q, l, m)

pub ruleset answering = (full_refused, full_held)

-- ---- the notice

pub notice_is : (h : History) (x : Session) → x ≡ session_of h.session → record { session = x; serial = h.newest } ≡ notify_of h
unfolding notify_of
notice_is h x e = rw e

pub ready_is : (h : History) → h.active ≡ ready_of h
unfolding ready_of
ready_is h = refl

pub ruleset noting = (notice_is, ready_is)
