-- Laws of what the calls that write messages hand back.
use Prim.Native.Nat.{ℕ}
use mathlib.Core.Path.{◌≡◌, ap₂, ◌∙◌}
use Rattle.serial.specs.declared.Serial.{Serial}
use Rattle.serial.specs.declared.Session.{Session}
use Rattle.serial.specs.declared.timing.Timing.{Timing}
use Rattle.payload.specs.Content.{Bytes}
use Rattle.message.specs.declared.version.Version.{Version}
use Rattle.past.specs.declared.state.History.{History}
use Rattle.wire.specs.Answer.{out_at, query_plan}
use Rattle.host.specs.declared.state.State.{State}
use Rattle.host.specs.State.{history_of}
use Rattle.host.specs.Version.{version_of}

-- ---- the calls: the version is the one of its number, a history by value the one that its state is

module _ (u : ℕ) (v : Version) (c : v ≡ version_of u) (s : State) (h : History) (e : h ≡ history_of s) where
  module _ (x : Session) (y : Serial) (t : Timing) (a b : Bytes) where
    pub query_out_lem : (o p : Bytes) → p ≡ out_at (query_plan v h x y t a b) o → p ≡ out_at (query_plan (version_of u) (history_of s) x y t a b) o
    query_out_lem o p q = q ∙ ap₂ (λ (z : Version) (k : History). out_at (query_plan z k x y t a b) o) c e
