-- What is heard in an answer that was written: its items, in order, each once, and its end.
use Prim.Native.Nat.{ℕ, zero, suc, ◌+◌, ◌-◌, ◌*◌, ◌%◌, ◌^◌, ◌<◌, ◌≤◌}
use mathlib.Core.Path.{◌≡◌, refl, sym, ap, ap₂, ◌∙◌}
use mathlib.Core.List.{List, [], ◌∷◌, ◌++◌, map, append_assoc}
use mathlib.Core.Bool.{Bool, true, false, cond, ◌&&◌}
use native.Mathlib.Omega.{arith}
use borrow.Author.Tests.{eqb-true, eq-eqb, leb-true}
use lib.Dec.{leb, eqb}
use lib.ListN.{length, get_or, take, drop, replicate, length-append, length-take, length-drop, take-append-drop}
use lib.Seq.{drop-drop, drop-cons}
use Rattle.order.specs.Map.{All}
use Rattle.order.proofs.Never.{never}
use Rattle.change.specs.Change.{Change, announce, withdraw}
use Rattle.change.specs.Difference.{Delta}
use Rattle.serial.specs.declared.timing.Timing.{Timing}
use Rattle.number.specs.Number.{two_bytes, four_bytes}
use Rattle.number.specs.Bytes.{AllBytes}
use Rattle.body.specs.Tag.{tag_of, good_body}
use Rattle.body.specs.Origin.{family, address, prefix_length, maximum_length, clean_byte, clean, good_prefix, good_origin}
use Rattle.body.specs.RouterKey.{good_router_key}
use Rattle.body.proofs.Sizes.{both}
use Rattle.payload.specs.Content.{Bytes}
use Rattle.payload.specs.Valid.{ValidChange, origin, router_key, aspa, valid_announce, valid_withdraw, valid_update}
use Rattle.item.proofs.Fronts.{drop_bytes, take_bytes}
use Rattle.message.specs.declared.version.Version.{Version}
use Rattle.message.specs.Version.{speaks, times_told}
use Rattle.message.specs.Message.{Message, cache_response, end_of_data, pdu, pdus}
use Rattle.message.specs.Message as message
use Rattle.message.specs.Record.{Part, payload, prefix_of, router_key_of, message_of, flags_of, payload_of, good_record, part_of}
use Rattle.message.specs.Say.{spoken, say_of, answer}
use Rattle.message.specs.Read.{Front, read}
use Rattle.message.specs.Hear.{ended, more, hear_part, hear_front, hear_f, open_front, hear}
use Rattle.message.specs.Take.{as_item}
use Rattle.wire.proofs.Counting.{aspas_unspoken}
use Rattle.router.specs.Send.{TimesFit, Sendable}
use Rattle.router.specs.Heard.{X, Spoken, told_from}
use Rattle.router.proofs.Trip.{end_trip, trip}

-- ---- the record of a message is the record that it was made of

clean_zero : (l : Bytes) → AllBytes l → clean 0 l ≡ true → l ≡ replicate (length l) 0
unfolding clean
clean_zero [] o h = refl
clean_zero (x ∷ l) o h =
    let p = both (clean_byte 0 x) (clean 0 l) h in
    let e : x ≡ 0 = omega (arith, o 0, eqb-true (x % 256) 0 p.0) in
    ap₂ (λ (y : ℕ) (m : Bytes). y ∷ m) e (clean_zero l (λ i. o (suc i)) p.1)

clean_past : (n : ℕ) (l : Bytes) (p : ℕ) → p ≤ 8 * n → clean p l ≡ true → clean 0 (drop n l) ≡ true
unfolding clean
clean_past zero l p h e = let z : p ≡ 0 = omega arith in rw z at e
clean_past (suc n) [] p h e = refl
clean_past (suc n) (x ∷ l) p h e = clean_past n l (p - 8) (omega arith) (both (clean_byte p x) (clean (p - 8) l) e).1

module _ (b : Bytes) (n : length b ≡ 23) where
  body_split : b ≡ family b ∷ (address b ++ (prefix_length b ∷ maximum_length b ∷ drop 19 b))
  body_split =
      drop-cons b 0 0 (omega arith)
      ∙ ap (λ (x : Bytes). family b ∷ x) (sym (take-append-drop 16 (drop 1 b)) ∙ ap (λ (x : Bytes). address b ++ x)
      (drop-drop 16 1 b ∙ drop-cons b 17 0 (omega arith) ∙ ap (λ (x : Bytes). prefix_length b ∷ x) (drop-cons b 18 0 (omega arith))))

  address_long : length (address b) ≡ 16
  address_long = simp (length-take, length-drop, n)

  tail_zero : AllBytes b → good_prefix 32 b ≡ true → drop 4 (address b) ≡ replicate 12 0
  unfolding good_prefix
  tail_zero o h =
      let p = both (leb (prefix_length b) (maximum_length b) && leb (maximum_length b) 32) (clean (prefix_length b) (address b)) h in
      let q = both (leb (prefix_length b) (maximum_length b)) (leb (maximum_length b) 32) p.0 in
      let c : clean 0 (drop 4 (address b)) ≡ true =
      clean_past 4 (address b) (prefix_length b) (omega (arith, leb-true (prefix_length b) (maximum_length b) q.0, leb-true (maximum_length b) 32 q.1)) p.1 in
      let l : length (drop 4 (address b)) ≡ 12 = length-drop 4 (address b) ∙ omega (arith, address_long) in
      clean_zero (drop 4 (address b)) (drop_bytes 4 (address b) (take_bytes 16 (drop 1 b) (drop_bytes 1 b o))) c ∙ ap (λ (m : ℕ). replicate m 0) l

origin_long : (b : Bytes) → good_origin b ≡ true → length b ≡ 23
unfolding good_origin
origin_long b g = eqb-true (length b) 23 (both (eqb (length b) 23) _ g).0

origin_part : (flags : ℕ) (b : Bytes) → good_origin b ≡ true → AllBytes b → part_of (prefix_of flags b) ≡ payload_of flags (1 ∷ b)
unfolding part_of good_origin
origin_part flags b g o = go (eqb (family b) 4) refl (both (eqb (length b) 23) _ g).1
  where
    n : length b ≡ 23
    n = eqb-true (length b) 23 (both (eqb (length b) 23) _ g).0

    go : (t : Bool) → eqb (family b) 4 ≡ t → cond t (good_prefix 32 b) (eqb (family b) 6 && good_prefix 128 b) ≡ true →
        part_of (cond t (message.ipv4_prefix flags (prefix_length b) (maximum_length b) (take 4 (address b)) (drop 19 b))
        (message.ipv6_prefix flags (prefix_length b) (maximum_length b) (address b) (drop 19 b))) ≡ payload_of flags (1 ∷ b)
    go true e h =
        let f : 4 ≡ family b = sym (eqb-true (family b) 4 e) in
        let a : take 4 (address b) ++ (replicate 12 0 ++ (prefix_length b ∷ maximum_length b ∷ drop 19 b)) ≡ address b ++ (prefix_length b ∷ maximum_length b ∷ drop 19 b) =
        ap (λ (z : Bytes). take 4 (address b) ++ (z ++ (prefix_length b ∷ maximum_length b ∷ drop 19 b))) (sym (tail_zero b n o h))
        ∙ sym (append_assoc (take 4 (address b)) (drop 4 (address b)) (prefix_length b ∷ maximum_length b ∷ drop 19 b))
        ∙ ap (λ (z : Bytes). z ++ (prefix_length b ∷ maximum_length b ∷ drop 19 b)) (take-append-drop 4 (address b)) in
        ap (λ (z : Bytes). payload_of flags (1 ∷ z)) (ap₂ (λ (x : ℕ) (z : Bytes). x ∷ z) f a ∙ sym (body_split b n))
    go false e h =
        let f : 6 ≡ family b = sym (eqb-true (family b) 6 (both (eqb (family b) 6) (good_prefix 128 b) h).0) in
        ap (λ (z : Bytes). payload_of flags (1 ∷ z)) (ap (λ (x : ℕ). x ∷ (address b ++ (prefix_length b ∷ maximum_length b ∷ drop 19 b))) f ∙ sym (body_split b n))

key_parts : (b : Bytes) → take 20 b ++ (take 4 (drop 20 b) ++ drop 24 b) ≡ b
key_parts b =
    ap (λ (x : Bytes). take 20 b ++ (take 4 (drop 20 b) ++ x)) (sym (drop-drop 4 20 b)) ∙ ap (λ (x : Bytes). take 20 b ++ x) (take-append-drop 4 (drop 20 b)) ∙ take-append-drop 20 b

key_part : (flags : ℕ) (b : Bytes) → part_of (router_key_of flags b) ≡ payload_of flags (2 ∷ b)
unfolding part_of
key_part flags b = ap (λ (x : Bytes). payload_of flags (2 ∷ x)) (key_parts b)

good_origin_lem : (b : Bytes) → good_origin b ≡ true → good_record (1 ∷ b) ≡ true
unfolding good_body tag_of
good_origin_lem b g = g

good_key : (b : Bytes) → good_router_key b ≡ true → good_record (2 ∷ b) ≡ true
unfolding good_body tag_of
good_key b g = g

announced_part : (k : Bytes) → good_record k ≡ true → payload_of 1 k ≡ payload k (announce [])
announced_part k g = rw g

withdrawn_part : (k : Bytes) → good_record k ≡ true → payload_of 0 k ≡ payload k (withdraw [])
withdrawn_part k g = rw g

unsaid : {A : Type 0} (v : Version) → speaks v 3 ≡ true → A
unsaid v e = let z : true ≡ false = sym e ∙ aspas_unspoken v in never cc

pub part_is : (v : Version) (x : X) → Spoken v x → part_of (say_of x) ≡ payload x.key x.val
unfolding message_of
part_is v x s = go s.valid s.octets s.speaks
  where
    go : {k : Bytes} {c : Change Bytes} → ValidChange k c → AllBytes k → speaks v (get_or k 0 0) ≡ true → part_of (message_of (flags_of c) k) ≡ payload k c
    go (valid_announce (origin {k} g)) o e = origin_part 1 k g (λ i. o (suc i)) ∙ announced_part (1 ∷ k) (good_origin_lem k g)
    go (valid_announce (router_key {k} g)) o e = key_part 1 k ∙ announced_part (2 ∷ k) (good_key k g)
    go (valid_announce (aspa l p q)) o e = unsaid v e
    go (valid_withdraw (origin {k} g)) o e = origin_part 0 k g (λ i. o (suc i)) ∙ withdrawn_part (1 ∷ k) (good_origin_lem k g)
    go (valid_withdraw (router_key {k} g)) o e = key_part 0 k ∙ withdrawn_part (2 ∷ k) (good_key k g)
    go (valid_withdraw (aspa l p q)) o e = unsaid v e
    go (valid_update p n) o e = unsaid v e

-- ---- it can be sent

origin_sendable : (v : Version) (flags : ℕ) (b : Bytes) → length b ≡ 23 → Sendable v (prefix_of flags b)
origin_sendable v flags b n = go (eqb (family b) 4)
  where
    go : (t : Bool) → Sendable v (cond t (message.ipv4_prefix flags (prefix_length b) (maximum_length b) (take 4 (address b)) (drop 19 b))
        (message.ipv6_prefix flags (prefix_length b) (maximum_length b) (address b) (drop 19 b)))
    go true = (simp (length-take, length-drop, n), simp (length-drop, n))
    go false = (simp (length-take, length-drop, n), simp (length-drop, n))

key_sendable : (v : Version) (flags : ℕ) (b : Bytes) → good_router_key b ≡ true → speaks v 2 ≡ true → Sendable v (router_key_of flags b)
unfolding good_router_key
key_sendable v flags b g e =
    let p = both (leb 24 (length b)) (leb (length b - 24) 1_024) g in
    let m = leb-true 24 (length b) p.0 in
    let n = leb-true (length b - 24) 1_024 p.1 in
    (length-take 20 b ∙ omega arith, length-take 4 (drop 20 b) ∙ omega (arith, length-drop 20 b), omega (arith, length-drop 24 b), e)

pub sendable : (v : Version) (x : X) → Spoken v x → Sendable v (say_of x)
unfolding message_of
sendable v x s = go s.valid s.speaks
  where
    go : {k : Bytes} {c : Change Bytes} → ValidChange k c → speaks v (get_or k 0 0) ≡ true → Sendable v (message_of (flags_of c) k)
    go (valid_announce (origin {k} g)) e = origin_sendable v 1 k (origin_long k g)
    go (valid_announce (router_key {k} g)) e = key_sendable v 1 k g e
    go (valid_announce (aspa l p q)) e = unsaid v e
    go (valid_withdraw (origin {k} g)) e = origin_sendable v 0 k (origin_long k g)
    go (valid_withdraw (router_key {k} g)) e = key_sendable v 0 k g e
    go (valid_withdraw (aspa l p q)) e = unsaid v e
    go (valid_update p n) e = unsaid v e

-- ---- an answer

response_long : (v : Version) (session : ℕ) → length (pdu v (cache_response session)) ≡ 8
unfolding pdu two_bytes four_bytes
response_long v session = refl

pub told_items_lem : (v : Version) (at : ℕ) (xs : List X) → map as_item (told_from v at xs) ≡ xs
told_items_lem v at [] = refl
told_items_lem v at (x ∷ xs) = ap (λ (l : List X). x ∷ l) (told_items_lem v (at + length (pdu v (say_of x))) xs)

some_bytes : (v : Version) (m : Message) → 1 ≤ length (pdu v m)
unfolding pdu
some_bytes v (message.serial_notify session serial) = omega arith
some_bytes v (message.serial_query session serial) = omega arith
some_bytes v (message.cache_response session) = omega arith
some_bytes v (message.ipv4_prefix flags p m a n) = omega arith
some_bytes v (message.ipv6_prefix flags p m a n) = omega arith
some_bytes v (message.end_of_data session serial times) = omega arith
some_bytes v message.cache_reset = omega arith
some_bytes v (message.router_key flags i a n) = omega arith
some_bytes v (message.error_report code e t) = omega arith

module _ (v : Version) (session serial : ℕ) (times : Timing) (h : session < 65536) (k : serial < 2 ^ 32) (f : TimesFit v times) where
  abbrev last : Message
  last = end_of_data session serial times

  few : (xs : List X) → length xs + 1 ≤ length (pdus v (map say_of xs ++ (last ∷ [])))
  unfolding pdus
  few [] = let l = some_bytes v last in omega (arith, length-append (pdu v last) [])
  few (x ∷ xs) = omega (arith, length-append (pdu v (say_of x)) (pdus v (map say_of xs ++ (last ∷ []))), some_bytes v (say_of x), few xs)

  hear_end : (fuel at : ℕ) → hear_f (suc fuel) v session at (pdus v (last ∷ [])) ≡ record { told = []; stop = ended session serial (times_told v times) }
  unfolding hear_f pdus part_of
  hear_end fuel at =
      ap (λ (z : Front). hear_front session at z (hear_f fuel v session)) (end_trip v [] session serial times h k f)
      ∙ rw (eq-eqb session session refl)

  step : (fuel at : ℕ) (x : X) (xs : List X) → Spoken v x →
      hear_f fuel v session (at + length (pdu v (say_of x))) (pdus v (map say_of xs ++ (last ∷ []))) ≡ record { told = told_from v (at + length (pdu v (say_of x))) xs; stop = ended session serial (times_told v times) } →
      hear_f (suc fuel) v session at (pdus v (map say_of (x ∷ xs) ++ (last ∷ []))) ≡ record { told = told_from v at (x ∷ xs); stop = ended session serial (times_told v times) }
  unfolding hear_f pdus
  step fuel at x xs s i =
      ap (λ (z : Front). hear_front session at z (hear_f fuel v session)) (trip v (say_of x) (pdus v (map say_of xs ++ (last ∷ []))) (sendable v x s))
      ∙ ap (λ (z : Part). hear_part session at z (length (pdu v (say_of x))) (pdus v (map say_of xs ++ (last ∷ []))) (hear_f fuel v session)) (part_is v x s)
      ∙ ap (more (record { at = at; key = x.key; change = x.val })) i

  hear_items : (fuel at : ℕ) (xs : List X) → All (Spoken v) xs → length xs < fuel →
      hear_f fuel v session at (pdus v (map say_of xs ++ (last ∷ []))) ≡ record { told = told_from v at xs; stop = ended session serial (times_told v times) }
  hear_items zero at xs s l = absurd (omega arith)
  hear_items (suc fuel) at [] s l = hear_end fuel at
  hear_items (suc fuel) at (x ∷ xs) s l = step fuel at x xs s.0 (hear_items fuel (at + length (pdu v (say_of x))) xs s.1 (omega arith))

  pub hear_answer : (D : Delta Bytes Bytes) → All (Spoken v) (spoken v D) →
      hear v (pdus v (answer v session serial times D)) ≡ record { told = told_from v 8 (spoken v D); stop = ended session serial (times_told v times) }
  unfolding hear pdus part_of
  hear_answer D s =
      let rest : Bytes = pdus v (map say_of (spoken v D) ++ (last ∷ [])) in
      ap (open_front v) (trip v (cache_response session) rest h ∙ ap (λ (n : ℕ). read (cache_response session) n rest) (response_long v session))
      ∙ hear_items (length rest + 1) 8 (spoken v D) s (omega (arith, few (spoken v D)))
