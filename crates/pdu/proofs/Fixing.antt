-- Laws of the messages of a fixed length.
use Prim.Native.Nat.{ℕ, ◌+◌, ◌<◌, ◌≤◌}
use mathlib.Core.Path.{◌≡◌, refl, ap, ◌∙◌}
use mathlib.Core.List.{[], ◌∷◌, ◌++◌, append_assoc}
use native.Mathlib.Omega.{arith}
use lib.ListN.{length, length-append}
use lib.Seq.{sets, length-sets}
use Rattle.serial.specs.declared.Serial.{Serial}
use Rattle.serial.specs.declared.Session.{Session}
use Rattle.serial.specs.declared.timing.Timing.{Timing}
use Rattle.number.specs.Number.{two_bytes, four_bytes}
use Rattle.payload.specs.Content.{Bytes}
use Rattle.message.specs.declared.version.Version.{Version}
use Rattle.message.specs.declared.version.Version.TheVariants.{Rfc6810, Rfc8210}
use Rattle.message.specs.Version.{times_bytes, end_length}
use Rattle.message.specs.Message.{header, pdu, serial_notify, serial_query, cache_response, end_of_data, cache_reset, error_report}
use Rattle.pdu.specs.Write.{session_head}
use Rattle.pdu.proofs.Heads.{join}

pub two : (x : ℕ) → length (two_bytes x) ≡ 2
unfolding two_bytes
two x = refl

pub four : (x : ℕ) → length (four_bytes x) ≡ 4
unfolding two_bytes four_bytes
four x = refl

pub eight : (v : Version) (kind size : ℕ) (b : Bytes) → length b ≡ 2 → length (header v kind b size) ≡ 8
eight v kind size b e = simp (length-append, e, four size)

pub serial_is : (v : Version) (kind size : ℕ) (s : Session) (m : Serial) (n : ℕ) (o p q : Bytes) (i : ℕ) → p ≡ sets o i (session_head v kind s size) → n ≡ m.0 →
    q ≡ sets p (i + 8) (four_bytes n) → q ≡ sets o i (session_head v kind s size ++ four_bytes m.0)
serial_is v kind size s m n o p q i e d f =
    rw d at (join o p q (session_head v kind s size) (four_bytes n) i (i + 8) e (omega (arith, eight v kind size (two_bytes s.0) (two s.0))) f)

pub ruleset serials = (serial_is)

pub response_is : (v : Version) (s : Session) (o p : Bytes) (i : ℕ) → p ≡ sets o i (session_head v 3 s 8) → p ≡ sets o i (pdu v (cache_response s.0))
unfolding pdu
response_is v s o p i e = e

pub reset_is : (v : Version) (o p : Bytes) (i : ℕ) → p ≡ sets o i (header v 8 (0 ∷ 0 ∷ []) 8) → p ≡ sets o i (pdu v cache_reset)
unfolding pdu
reset_is v o p i e = e

module _ (v : Version) (s : Session) (n : Serial) (o p : Bytes) (i : ℕ) where
  pub notify_is : p ≡ sets o i (session_head v 0 s 12 ++ four_bytes n.0) → p ≡ sets o i (pdu v (serial_notify s.0 n.0))
  unfolding pdu
  notify_is e = e

  pub query_is : p ≡ sets o i (session_head v 1 s 12 ++ four_bytes n.0) → p ≡ sets o i (pdu v (serial_query s.0 n.0))
  unfolding pdu
  query_is e = e

pub ruleset simple = (response_is, reset_is, notify_is, query_is)

-- ---- the times

pub three_are : (o p q r : Bytes) (i x y z a b c : ℕ) → x ≡ a → y ≡ b → z ≡ c → p ≡ sets o i (four_bytes x) → q ≡ sets p (i + 4) (four_bytes y) →
    r ≡ sets q (i + 8) (four_bytes z) → r ≡ sets o i (four_bytes a ++ (four_bytes b ++ four_bytes c))
three_are o p q r i x y z a b c ea eb ec e f g =
    rw (ea, eb, ec) at (join o p r (four_bytes x) (four_bytes y ++ four_bytes z) i (i + 4) e (rw (four x))
    (join p q r (four_bytes y) (four_bytes z) (i + 4) (i + 8) f (rw (four y) (omega arith)) g))

pub times_room : (v : Version) (t : Timing) (i n : ℕ) → v ≡ Rfc8210 → i + length (times_bytes v t) ≤ n → i + 12 ≤ n
unfolding two_bytes four_bytes
times_room v t i n e h = rw e at h

pub times_none : (v : Version) (t : Timing) (o : Bytes) (i : ℕ) → v ≡ Rfc6810 → o ≡ sets o i (times_bytes v t)
times_none v t o i e = rw e

pub times_are : (v : Version) (t : Timing) (o p : Bytes) (i : ℕ) → v ≡ Rfc8210 →
    p ≡ sets o i (four_bytes t.refresh ++ (four_bytes t.retry ++ four_bytes t.expire)) → p ≡ sets o i (times_bytes v t)
times_are v t o p i d e = rw d e

pub ruleset times = (three_are, times_room, times_none, times_are)

-- ---- End of Data

module _ (v : Version) (t : Timing) where
  end_parts : end_length v ≡ 12 + length (times_bytes v t)
  unfolding two_bytes four_bytes
  end_parts = go v
    where
      go : (u : Version) → end_length u ≡ 12 + length (times_bytes u t)
      go Rfc6810 = refl
      go Rfc8210 = refl

pub end_small : (v : Version) (n : ℕ) → n ≡ end_length v → n < 4_294_967_296
end_small v n e = go v e
  where
    go : (u : Version) → n ≡ end_length u → n < 4_294_967_296
    go Rfc6810 f = omega arith
    go Rfc8210 f = omega arith

module _ (v : Version) (t : Timing) (i n : ℕ) (h : i + end_length v ≤ n) where
  pub end_serial : i + 12 ≤ n
  end_serial = let e = end_parts v t in omega arith

pub end_times : (v : Version) (t : Timing) (i : ℕ) (o p a : Bytes) → p ≡ sets o i a → i + end_length v ≤ length o → i + 12 + length (times_bytes v t) ≤ length p
end_times v t i o p a e h = let l = end_parts v t in rw (e, length-sets o i a) (omega arith)

pub end_is : (v : Version) (t : Timing) (s : Session) (m : Serial) (o p q : Bytes) (i size : ℕ) → size ≡ end_length v →
    p ≡ sets o i (session_head v 7 s size ++ four_bytes m.0) → q ≡ sets p (i + 12) (times_bytes v t) → q ≡ sets o i (pdu v (end_of_data s.0 m.0 t))
unfolding pdu
end_is v t s m o p q i size d e f =
    let n : length (session_head v 7 s size ++ four_bytes m.0) ≡ 12 =
    length-append (session_head v 7 s size) (four_bytes m.0) ∙ omega (arith, eight v 7 size (two_bytes s.0) (two s.0), four m.0) in
    let g : sets o i ((session_head v 7 s size ++ four_bytes m.0) ++ times_bytes v t) ≡ sets o i (session_head v 7 s size ++ (four_bytes m.0 ++ times_bytes v t)) =
    ap (sets o i) (append_assoc (session_head v 7 s size) (four_bytes m.0) (times_bytes v t)) in
    rw d at (join o p q (session_head v 7 s size ++ four_bytes m.0) (times_bytes v t) i (i + 12) e (omega (arith, n)) f ∙ g)

pub ruleset ends = (end_small, end_serial, end_times, end_is)

-- ---- the Error Report of another session

module _ (v : Version) (s : Session) (n : Serial) (o p q r t : Bytes) (i : ℕ) where
  pub report_is : p ≡ sets o i (header v 10 (0 ∷ 0 ∷ []) 28) → q ≡ sets p (i + 8) (four_bytes 12) → r ≡ sets q (i + 12) (pdu v (serial_query s.0 n.0)) →
      t ≡ sets r (i + 24) (four_bytes 0) → t ≡ sets o i (pdu v (error_report 0 (pdu v (serial_query s.0 n.0)) []))
  unfolding two_bytes four_bytes pdu
  report_is e f g k =
      join o p t (header v 10 (0 ∷ 0 ∷ []) 28) (four_bytes 12 ++ (pdu v (serial_query s.0 n.0) ++ four_bytes 0)) i (i + 8) e refl
      (join p q t (four_bytes 12) (pdu v (serial_query s.0 n.0) ++ four_bytes 0) (i + 8) (i + 12) f (omega arith)
      (join q r t (pdu v (serial_query s.0 n.0)) (four_bytes 0) (i + 12) (i + 24) g (omega arith) k))

pub ruleset reports = (report_is)
