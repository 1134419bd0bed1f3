-- How many bytes an answer has at most: four times its messages' bytes are no more than five times its fields'.
use Prim.Native.Nat.{ℕ, ◌+◌, ◌*◌, ◌/◌, ◌≤◌}
use mathlib.Core.Path.{◌≡◌, refl, sym, ap, ◌∙◌}
use mathlib.Core.List.{[], ◌∷◌}
use mathlib.Core.Bool.{Bool, true, false, cond}
use native.Mathlib.Omega.{arith}
use borrow.Author.Tests.{eq-eqb, ne_eqb}
use lib.Dec.{eqb}
use lib.ListN.{length, get_or, drop, length-append}
use Rattle.order.specs.Map.{All}
use Rattle.order.proofs.Never.{never}
use Rattle.number.specs.Bytes.{AllBytes}
use Rattle.body.specs.declared.tag.Form.TheVariants.{Snapshot, Delta}
use Rattle.body.specs.Origin.{family}
use Rattle.field.specs.Verdict.{verdict}
use Rattle.field.specs.Cells as run
use Rattle.payload.specs.Content.{Bytes}
use Rattle.payload.specs.Valid.{Valid}
use Rattle.payload.specs.Payload.{items, encode}
use Rattle.payload.proofs.Faithful.{faithful}
use Rattle.payload.proofs.Sizes.{diff_length}
use Rattle.item.specs.Write.{writes}
use Rattle.message.specs.declared.version.Version.{Version}
use Rattle.message.specs.Version.{speaks, end_length}
use Rattle.message.specs.Message.{pdu}
use Rattle.message.specs.Record.{message_of, flags_of}
use Rattle.message.specs.Say.{kind_in}
use Rattle.pdu.specs.Write.{ipv4_of, ipv6_of}
use Rattle.pdu.proofs.Records.{ipv4_length, ipv6_length, key_length}
use Rattle.wire.specs.declared.frame.Frame.{Frame}
use Rattle.wire.specs.Answer.{answer_bytes, all_new}
use Rattle.wire.specs.Tally.{saying}
use Rattle.wire.proofs.Saying.{X, D, saying_cons, saying_none, said_one, unsaid_one}
use Rattle.wire.proofs.Counting.{Shape, an_origin, a_router_key, an_aspa, shape_of, aspas_unspoken}
use Rattle.wire.proofs.Framing.{bytes_long}
use Rattle.std.specs.Prelude.{Ok}

field_long : (x : X) (d : D) → 3 + length (drop 1 x.key) + length (writes Delta d) ≤ length (writes Delta (x ∷ d))
unfolding run.cell_bytes run.field
field_long x d = simp length-append (omega arith)

-- an origin's message has at most 32 bytes, its field 26; a router key's has 5 more than its field
message_short : (v : Version) (flags : ℕ) (k : Bytes) → Shape k → speaks v (get_or k 0 0) ≡ true → 4 * length (pdu v (message_of flags k)) ≤ 5 * (3 + length (drop 1 k))
unfolding message_of
message_short v flags k (an_origin e l) s = rw (eq-eqb (get_or k 0 0) 1 e) (go (eqb (family (drop 1 k)) 4))
  where
    go : (t : Bool) → 4 * length (pdu v (cond t (ipv4_of flags (drop 1 k)) (ipv6_of flags (drop 1 k)))) ≤ 5 * (3 + length (drop 1 k))
    go true = omega (arith, ipv4_length v flags (drop 1 k) l, l)
    go false = omega (arith, ipv6_length v flags (drop 1 k) l, l)
message_short v flags k (a_router_key e l) s = rw (ne_eqb (get_or k 0 0) 1 (λ q. omega arith)) (omega (arith, key_length v flags (drop 1 k) l, l))
message_short v flags k (an_aspa e) s = let z : true ≡ false = sym s ∙ ap (speaks v) e ∙ aspas_unspoken v in never cc

one_short : (v : Version) (x : X) → Valid Delta x → 4 * length (saying v (x ∷ [])) ≤ 5 * (3 + length (drop 1 x.key))
one_short v x h = go (speaks v (kind_in x)) refl
  where
    go : (t : Bool) → speaks v (kind_in x) ≡ t → 4 * length (saying v (x ∷ [])) ≤ 5 * (3 + length (drop 1 x.key))
    go true e = omega (arith, ap length (said_one v x e), message_short v (flags_of x.val) x.key (shape_of h) e)
    go false e = omega (arith, ap length (unsaid_one v x e))

pub saying_short : (v : Version) (d : D) → All (Valid Delta) d → 4 * length (saying v d) ≤ 5 * length (writes Delta d)
saying_short v [] h = omega (arith, ap length (saying_none v))
saying_short v (x ∷ d) h =
    omega (arith, ap length (saying_cons v x d), length-append (saying v (x ∷ [])) (saying v d), one_short v x h.0, field_long x d, saying_short v d h.1)

pub answer_short : (v : Version) (f : Frame) (d : D) (m : ℕ) → All (Valid Delta) d → length (writes Delta d) ≤ m → length (answer_bytes v f d) ≤ 8 + (m + m / 4) + end_length v
answer_short v f d m h l = let s = saying_short v d h in omega (arith, bytes_long v f d)

-- a snapshot's fields announced take no more bytes than it has
pub new_short : (s : Bytes) → AllBytes s → verdict Snapshot s ≡ Ok tt → length (writes Delta (all_new s)) ≤ length s
unfolding encode run.cell_bytes
new_short s o f = omega (arith, diff_length [] (items s), ap length ((faithful Snapshot).bytes_back s o f))
