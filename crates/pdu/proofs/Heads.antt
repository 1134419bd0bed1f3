-- Laws of headers.
use Prim.Native.Nat.{ℕ, ◌+◌, ◌*◌, ◌/◌, ◌%◌, ◌<◌}
use mathlib.Core.Path.{◌≡◌, sym, ap, ◌∙◌}
use mathlib.Core.List.{[], ◌∷◌, ◌++◌}
use native.Mathlib.Omega.{arith}
use lib.ListN.{length}
use lib.Seq.{sets}
use Rattle.serial.specs.declared.Session.{Session}
use Rattle.number.specs.Number.{two_bytes, four_bytes}
use Rattle.payload.specs.Content.{Bytes}
use Rattle.item.proofs.Sinking.{sets_append}
use Rattle.message.specs.declared.version.Version.{Version}
use Rattle.message.specs.Version.{version_number}
use Rattle.message.specs.Message.{header}
use Rattle.pdu.specs.Write.{session_head}

-- one run of stores behind another
pub join : (o p q a b : Bytes) (i j : ℕ) → p ≡ sets o i a → j ≡ i + length a → q ≡ sets p j b → q ≡ sets o i (a ++ b)
join o p q a b i j e k f = f ∙ rw (e, k) (sym (sets_append a b o i))

-- the four bytes of a number are those that it was made of
four_made : (a b c d : ℕ) → a < 256 → b < 256 → c < 256 → d < 256 → four_bytes (a * 16_777_216 + b * 65_536 + c * 256 + d) ≡ a ∷ b ∷ c ∷ d ∷ []
unfolding two_bytes four_bytes
four_made a b c d h k l m =
    let n : ℕ = a * 16_777_216 + b * 65_536 + c * 256 + d in
    let p : n / 65_536 / 256 ≡ a = omega arith in
    let q : n / 65_536 % 256 ≡ b = omega arith in
    let r : n % 65_536 / 256 ≡ c = omega arith in
    let s : n % 65_536 % 256 ≡ d = omega arith in
    rw (p, q, r, s)

pub quad_is : (o p : Bytes) (i a b c d x y z w : ℕ) → x ≡ a → x < 256 → y ≡ b → y < 256 → z ≡ c → z < 256 → w ≡ d → w < 256 →
    p ≡ sets o i (four_bytes (x * 16_777_216 + y * 65_536 + z * 256 + w)) → p ≡ sets o i (a ∷ b ∷ c ∷ d ∷ [])
quad_is o p i a b c d x y z w ea ha eb hb ec hc ed hd e = e ∙ ap (sets o i) (four_made x y z w ha hb hc hd) ∙ rw (ea, eb, ec, ed)

pub head_is_lem : (v : Version) (o p q : Bytes) (i n kind high low size : ℕ) → n ≡ version_number v → p ≡ sets o i (n ∷ kind ∷ high ∷ low ∷ []) →
    q ≡ sets p (i + 4) (four_bytes size) → q ≡ sets o i (header v kind (high ∷ low ∷ []) size)
head_is_lem v o p q i n kind high low size e f g = rw e at (join o p q (n ∷ kind ∷ high ∷ low ∷ []) (four_bytes size) i (i + 4) f (omega arith) g)

pub ruleset heads = (quad_is, head_is_lem)

-- ---- a session

pub session_is : (v : Version) (session : Session) (o p : Bytes) (i kind size : ℕ) → p ≡ sets o i (header v kind (session.0 / 256 ∷ session.0 % 256 ∷ []) size) →
    p ≡ sets o i (session_head v kind session size)
unfolding two_bytes
session_is v session o p i kind size e = e

pub ruleset sessions = (session_is)
