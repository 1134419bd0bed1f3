-- Reading what was written gives the message back.
use Prim.Native.Nat.{ℕ, ◌+◌, ◌-◌, ◌/◌, ◌%◌, ◌^◌, ◌<◌}
use mathlib.Core.Path.{◌≡◌, refl, sym, ap, ap₂, ◌∙◌}
use mathlib.Core.List.{[], ◌∷◌, ◌++◌, append_assoc}
use mathlib.Core.Bool.{true}
use mathlib.Core.Option.{Option, some}
use native.Mathlib.Omega.{arith}
use native.Mathlib.Nat.{add-zero}
use borrow.Author.Tests.{le-leb, eq-eqb}
use lib.Dec.{leb, eqb}
use lib.ListN.{length, take, drop, length-append}
use lib.Seq.{take_at, drop_at, drop-drop, get_or-drop}
use Rattle.serial.specs.declared.timing.Timing.{Timing}
use Rattle.number.specs.Number.{two, four, two_at, four_at, two_bytes, four_bytes}
use Rattle.number.specs.Bytes.{part}
use Rattle.payload.specs.Content.{Bytes}
use Rattle.message.specs.declared.version.Version.{Version}
use Rattle.message.specs.declared.version.Version.TheVariants.{Rfc6810, Rfc8210}
use Rattle.message.specs.Version.{version_number, speaks, times_told, times_bytes, end_length}
use Rattle.message.specs.Message.{Message, serial_notify, serial_query, cache_response, ipv4_prefix, ipv6_prefix, end_of_data, cache_reset, router_key, error_report, header, pdu}
use Rattle.message.specs.Read.{error_in, message_in, read, front_of, front}
use Rattle.router.specs.Send.{TimesFit, Sendable}

-- ---- numbers

two_back : (n : ℕ) → n < 65536 → two (n / 256) (n % 256) ≡ n
two_back n h = omega arith

four_back : (n : ℕ) → n < 2 ^ 32 → four (n / 65_536 / 256) (n / 65_536 % 256) (n % 65_536 / 256) (n % 65_536 % 256) ≡ n
four_back n h = omega arith

four_long : (n : ℕ) → length (four_bytes n) ≡ 4
unfolding two_bytes four_bytes
four_long n = refl

-- the number at the front of bytes
four_front : (n : ℕ) (rest : Bytes) → n < 2 ^ 32 → four_at (four_bytes n ++ rest) 0 ≡ n
unfolding two_bytes four_bytes
four_front n rest h = four_back n h

-- ---- a header: the version and the type are read, and the length says where the message ends

header_front : (v : Version) (type a b n : ℕ) (body rest : Bytes) → n < 2 ^ 32 → n ≡ 8 + length body →
    front v ((header v type (a ∷ b ∷ []) n ++ body) ++ rest) ≡ front_of (message_in v type n ((header v type (a ∷ b ∷ []) n ++ body) ++ rest)) n rest
unfolding front two_bytes four_bytes
header_front v type a b n body rest h e =
    let s : Bytes = (header v type (a ∷ b ∷ []) n ++ body) ++ rest in
    let m : four_at s 4 ≡ n = four_back n h in
    let l : length s ≡ 8 + length (body ++ rest) = omega arith in
    let k = length-append body rest in
    let p : leb 8 (length s) ≡ true = le-leb 8 (length s) (omega arith) in
    let q : eqb (version_number v) (version_number v) ≡ true = eq-eqb (version_number v) (version_number v) refl in
    let r : leb n (length s) ≡ true = le-leb n (length s) (omega arith) in
    let d : drop n s ≡ rest = drop_at (header v type (a ∷ b ∷ []) n ++ body) rest n (omega arith) in
    rw (m, p, q, r, d)

-- ---- each message

end_long : (v : Version) (session serial : ℕ) (times : Timing) → end_length v ≡ length (pdu v (end_of_data session serial times))
unfolding pdu two_bytes four_bytes
end_long Rfc6810 session serial times = refl
end_long Rfc8210 session serial times = refl

-- End of Data in RFC 6810
end_trip_0 : (rest : Bytes) (session serial : ℕ) (times : Timing) → session < 65536 → serial < 2 ^ 32 →
    front Rfc6810 (pdu Rfc6810 (end_of_data session serial times) ++ rest) ≡ read (end_of_data session serial (times_told Rfc6810 times)) 12 rest
unfolding pdu message_in two_bytes four_bytes
end_trip_0 rest session serial times h k =
    header_front Rfc6810 7 (session / 256) (session % 256) 12 (four_bytes serial ++ times_bytes Rfc6810 times) rest (omega arith) refl
    ∙ (λ i. read (end_of_data (two_back session h i) (four_back serial k i) (times_told Rfc6810 times)) 12 rest)

-- End of Data in RFC 8210
end_trip_1 : (rest : Bytes) (session serial : ℕ) (times : Timing) → session < 65536 → serial < 2 ^ 32 → TimesFit Rfc8210 times →
    front Rfc8210 (pdu Rfc8210 (end_of_data session serial times) ++ rest) ≡ read (end_of_data session serial times) 24 rest
unfolding pdu message_in two_bytes four_bytes
end_trip_1 rest session serial times h k t =
    header_front Rfc8210 7 (session / 256) (session % 256) 24 (four_bytes serial ++ times_bytes Rfc8210 times) rest (omega arith) refl
    ∙ (λ i. read (end_of_data (two_back session h i) (four_back serial k i)
    (record { refresh = four_back times.refresh t.0 i; retry = four_back times.retry t.1 i; expire = four_back times.expire t.2 i })) 24 rest)

module _ (v : Version) (rest : Bytes) where
  notify_trip : (session serial : ℕ) → session < 65536 → serial < 2 ^ 32 → front v (pdu v (serial_notify session serial) ++ rest) ≡ read (serial_notify session serial) 12 rest
  unfolding pdu message_in two_bytes four_bytes
  notify_trip session serial h k =
      header_front v 0 (session / 256) (session % 256) 12 (four_bytes serial) rest (omega arith) refl
      ∙ ap₂ (λ (x y : ℕ). read (serial_notify x y) 12 rest) (two_back session h) (four_back serial k)

  query_trip : (session serial : ℕ) → session < 65536 → serial < 2 ^ 32 → front v (pdu v (serial_query session serial) ++ rest) ≡ read (serial_query session serial) 12 rest
  unfolding pdu message_in two_bytes four_bytes
  query_trip session serial h k =
      header_front v 1 (session / 256) (session % 256) 12 (four_bytes serial) rest (omega arith) refl
      ∙ ap₂ (λ (x y : ℕ). read (serial_query x y) 12 rest) (two_back session h) (four_back serial k)

  response_trip : (session : ℕ) → session < 65536 → front v (pdu v (cache_response session) ++ rest) ≡ read (cache_response session) 8 rest
  unfolding pdu message_in two_bytes four_bytes
  response_trip session h =
      header_front v 3 (session / 256) (session % 256) 8 [] rest (omega arith) refl ∙ ap (λ (x : ℕ). read (cache_response x) 8 rest) (two_back session h)

  reset_trip : front v (pdu v cache_reset ++ rest) ≡ read cache_reset 8 rest
  unfolding pdu message_in two_bytes four_bytes
  reset_trip = header_front v 8 0 0 8 [] rest (omega arith) refl

  -- two parts of known lengths, and what is behind them
  parts : (a b : Bytes) (m n : ℕ) → length a ≡ m → length b ≡ n → (take m ((a ++ b) ++ rest) ≡ a) × (take n (drop m ((a ++ b) ++ rest)) ≡ b)
  parts a b m n h k =
      let e : (a ++ b) ++ rest ≡ a ++ (b ++ rest) = append_assoc a b rest in
      (ap (take m) e ∙ take_at a (b ++ rest) m h, ap (λ (x : Bytes). take n (drop m x)) e ∙ ap (take n) (drop_at a (b ++ rest) m h) ∙ take_at b rest n k)

  ipv4_trip : (flags p m : ℕ) (address asn : Bytes) → length address ≡ 4 → length asn ≡ 4 →
      front v (pdu v (ipv4_prefix flags p m address asn) ++ rest) ≡ read (ipv4_prefix flags p m address asn) 20 rest
  unfolding pdu message_in two_bytes four_bytes
  ipv4_trip flags p m address asn h k =
      header_front v 4 0 0 20 (flags ∷ p ∷ m ∷ 0 ∷ (address ++ asn)) rest (omega arith) (omega (arith, length-append address asn))
      ∙ ap₂ (λ (x y : Bytes). read (ipv4_prefix flags p m x y) 20 rest) (parts address asn 4 4 h k).0 (parts address asn 4 4 h k).1

  ipv6_trip : (flags p m : ℕ) (address asn : Bytes) → length address ≡ 16 → length asn ≡ 4 →
      front v (pdu v (ipv6_prefix flags p m address asn) ++ rest) ≡ read (ipv6_prefix flags p m address asn) 32 rest
  unfolding pdu message_in two_bytes four_bytes
  ipv6_trip flags p m address asn h k =
      header_front v 6 0 0 32 (flags ∷ p ∷ m ∷ 0 ∷ (address ++ asn)) rest (omega arith) (omega (arith, length-append address asn))
      ∙ ap₂ (λ (x y : Bytes). read (ipv6_prefix flags p m x y) 32 rest) (parts address asn 16 4 h k).0 (parts address asn 16 4 h k).1

  key_trip : (flags : ℕ) (identifier asn info : Bytes) → length identifier ≡ 20 → length asn ≡ 4 → length info < 2 ^ 31 → speaks v 2 ≡ true →
      front v (pdu v (router_key flags identifier asn info) ++ rest) ≡ read (router_key flags identifier asn info) (32 + length info) rest
  unfolding pdu message_in two_bytes four_bytes
  key_trip flags identifier asn info h k l s =
      let n : ℕ = 32 + length info in
      let body : Bytes = identifier ++ (asn ++ info) in
      let g : leb 32 n ≡ true = le-leb 32 n (omega arith) in
      let e : body ++ rest ≡ identifier ++ (asn ++ (info ++ rest)) =
      append_assoc identifier (asn ++ info) rest ∙ ap (λ (x : Bytes). identifier ++ x) (append_assoc asn info rest) in
      let a : take 20 (body ++ rest) ≡ identifier = ap (take 20) e ∙ take_at identifier (asn ++ (info ++ rest)) 20 h in
      let d : drop 20 (body ++ rest) ≡ asn ++ (info ++ rest) = ap (drop 20) e ∙ drop_at identifier (asn ++ (info ++ rest)) 20 h in
      let b : take 4 (drop 20 (body ++ rest)) ≡ asn = ap (take 4) d ∙ take_at asn (info ++ rest) 4 k in
      let w : drop 24 (body ++ rest) ≡ info ++ rest =
      sym (drop-drop 4 20 (body ++ rest)) ∙ ap (drop 4) d ∙ drop_at asn (info ++ rest) 4 k in
      let z : n - 32 ≡ length info = omega arith in
      let c : take (n - 32) (drop 24 (body ++ rest)) ≡ info = rw (z, w) (take_at info rest (length info) refl) in
      header_front v 9 flags 0 n body rest (omega arith) (omega (arith, length-append identifier (asn ++ info), length-append asn info))
      ∙ rw (s, g) (λ i. read (router_key flags (a i) (b i) (c i)) n rest)

  -- of the times, what is told is read
  pub end_trip : (session serial : ℕ) (times : Timing) → session < 65536 → serial < 2 ^ 32 → TimesFit v times →
      front v (pdu v (end_of_data session serial times) ++ rest) ≡ read (end_of_data session serial (times_told v times)) (end_length v) rest
  end_trip session serial times h k t = go v t
    where
      go : (u : Version) → TimesFit u times → front u (pdu u (end_of_data session serial times) ++ rest) ≡ read (end_of_data session serial (times_told u times)) (end_length u) rest
      go Rfc6810 f = end_trip_0 rest session serial times h k
      go Rfc8210 f = end_trip_1 rest session serial times h k f

-- ---- an Error Report

module _ (v : Version) (rest : Bytes) (code : ℕ) (enclosed text : Bytes) (h : code < 65536) (k : length enclosed < 2 ^ 31) (l : length text < 2 ^ 30) where
  abbrev behind : Bytes
  behind = (four_bytes (length enclosed) ++ (enclosed ++ (four_bytes (length text) ++ text))) ++ rest

  abbrev whole : ℕ
  whole = 16 + length enclosed + length text

  behind_is : behind ≡ four_bytes (length enclosed) ++ (enclosed ++ (four_bytes (length text) ++ (text ++ rest)))
  behind_is =
      append_assoc (four_bytes (length enclosed)) (enclosed ++ (four_bytes (length text) ++ text)) rest
      ∙ ap (λ (x : Bytes). four_bytes (length enclosed) ++ x) (append_assoc enclosed (four_bytes (length text) ++ text) rest
      ∙ ap (λ (x : Bytes). enclosed ++ x) (append_assoc (four_bytes (length text)) text rest))

  behind_four : drop 4 behind ≡ enclosed ++ (four_bytes (length text) ++ (text ++ rest))
  behind_four = ap (drop 4) behind_is ∙ drop_at (four_bytes (length enclosed)) (enclosed ++ (four_bytes (length text) ++ (text ++ rest))) 4 (four_long (length enclosed))

  behind_enclosed : drop (4 + length enclosed) behind ≡ four_bytes (length text) ++ (text ++ rest)
  behind_enclosed =
      sym (drop-drop (length enclosed) 4 behind) ∙ ap (drop (length enclosed)) behind_four
      ∙ drop_at enclosed (four_bytes (length text) ++ (text ++ rest)) (length enclosed) refl

  behind_text : drop (8 + length enclosed) behind ≡ text ++ rest
  behind_text =
      let e : 8 + length enclosed ≡ 4 + length enclosed + 4 = omega arith in
      ap (λ (n : ℕ). drop n behind) e ∙ sym (drop-drop 4 (4 + length enclosed) behind) ∙ ap (drop 4) behind_enclosed
      ∙ drop_at (four_bytes (length text)) (text ++ rest) 4 (four_long (length text))

  abbrev S : Bytes
  S = header v 10 (code / 256 ∷ code % 256 ∷ []) whole ++ behind

  past_head : drop 8 S ≡ behind
  unfolding two_bytes four_bytes
  past_head = refl

  s_drop : (n : ℕ) → drop (8 + n) S ≡ drop n behind
  s_drop n = sym (drop-drop n 8 S) ∙ ap (drop n) past_head

  at_drop : (s : Bytes) (i : ℕ) → four_at s i ≡ four_at (drop i s) 0
  at_drop s i = rw (get_or-drop i s 0 0, get_or-drop i s 1 0, get_or-drop i s 2 0, get_or-drop i s 3 0, add-zero i)

  code_is : two_at S 2 ≡ code
  unfolding two_bytes four_bytes
  code_is = two_back code h

  first_long : four_at S 8 ≡ length enclosed
  first_long = at_drop S 8 ∙ ap (λ (x : Bytes). four_at x 0) (past_head ∙ behind_is) ∙ four_front (length enclosed) _ (omega arith)

  second_long : four_at S (12 + length enclosed) ≡ length text
  second_long =
      let e : 12 + length enclosed ≡ 8 + (4 + length enclosed) = omega arith in
      at_drop S (12 + length enclosed) ∙ ap (λ (x : Bytes). four_at x 0) (ap (λ (n : ℕ). drop n S) e ∙ s_drop (4 + length enclosed) ∙ behind_enclosed)
      ∙ four_front (length text) (text ++ rest) (omega arith)

  enclosed_is : part S 12 (12 + length enclosed) ≡ enclosed
  enclosed_is =
      let e : 12 + length enclosed - 12 ≡ length enclosed = omega arith in
      ap₂ (λ (n : ℕ) (x : Bytes). take n x) e (s_drop 4 ∙ behind_four) ∙ take_at enclosed (four_bytes (length text) ++ (text ++ rest)) (length enclosed) refl

  text_is : part S (16 + length enclosed) whole ≡ text
  text_is =
      let e : whole - (16 + length enclosed) ≡ length text = omega arith in
      let f : 16 + length enclosed ≡ 8 + (8 + length enclosed) = omega arith in
      ap₂ (λ (n : ℕ) (x : Bytes). take n x) e (ap (λ (n : ℕ). drop n S) f ∙ s_drop (8 + length enclosed) ∙ behind_text) ∙ take_at text rest (length text) refl

  error_in_lem : error_in whole (length enclosed) S ≡ some (error_report code enclosed text)
  error_in_lem =
      let q : eqb whole (16 + length enclosed + four_at S (12 + length enclosed)) ≡ true = eq-eqb whole (16 + length enclosed + four_at S (12 + length enclosed)) (omega (arith, second_long)) in
      rw q (λ i. some (error_report (code_is i) (enclosed_is i) (text_is i)))

  errors : message_in v 10 whole S ≡ some (error_report code enclosed text)
  unfolding message_in
  errors = ap (λ (e : ℕ). error_in whole e S) first_long ∙ error_in_lem

  body_long : whole ≡ 8 + length (four_bytes (length enclosed) ++ (enclosed ++ (four_bytes (length text) ++ text)))
  body_long =
      omega (
        arith,
        length-append (four_bytes (length enclosed)) (enclosed ++ (four_bytes (length text) ++ text)),
        length-append enclosed (four_bytes (length text) ++ text),
        length-append (four_bytes (length text)) text,
        four_long (length enclosed),
        four_long (length text),
      )

  error_trip : front v (pdu v (error_report code enclosed text) ++ rest) ≡ read (error_report code enclosed text) whole rest
  unfolding pdu two_bytes four_bytes
  error_trip =
      header_front v 10 (code / 256) (code % 256) whole (four_bytes (length enclosed) ++ (enclosed ++ (four_bytes (length text) ++ text))) rest (omega arith) body_long
      ∙ ap (λ (o : Option Message). front_of o whole rest) errors

-- ---- any message

pub trip : (v : Version) (m : Message) (rest : Bytes) → Sendable v m → front v (pdu v m ++ rest) ≡ read m (length (pdu v m)) rest
unfolding pdu two_bytes four_bytes
trip v (serial_notify session serial) rest h = notify_trip v rest session serial h.0 h.1
trip v (serial_query session serial) rest h = query_trip v rest session serial h.0 h.1
trip v (cache_response session) rest h = response_trip v rest session h
trip v (ipv4_prefix flags p m address asn) rest h =
    ipv4_trip v rest flags p m address asn h.0 h.1
    ∙ ap (λ (n : ℕ). read (ipv4_prefix flags p m address asn) n rest) (omega (arith, length-append address asn, h.0, h.1))
trip v (ipv6_prefix flags p m address asn) rest h =
    ipv6_trip v rest flags p m address asn h.0 h.1
    ∙ ap (λ (n : ℕ). read (ipv6_prefix flags p m address asn) n rest) (omega (arith, length-append address asn, h.0, h.1))
trip v (end_of_data session serial times) rest h =
    end_trip v rest session serial times h.0 h.1 h.2
    ∙ ap₂ (λ (t : Timing) (n : ℕ). read (end_of_data session serial t) n rest) h.3 (end_long v session serial times)
trip v cache_reset rest h = reset_trip v rest
trip v (router_key flags identifier asn info) rest h =
    key_trip v rest flags identifier asn info h.0 h.1 h.2 h.3
    ∙ ap (λ (n : ℕ). read (router_key flags identifier asn info) n rest) (omega (arith, length-append identifier (asn ++ info), length-append asn info, h.0, h.1))
trip v (error_report code enclosed text) rest h =
    error_trip v rest code enclosed text h.0 h.1 h.2
    ∙ ap (λ (n : ℕ). read (error_report code enclosed text) n rest) (omega (arith, length-append enclosed (four_bytes (length text) ++ text)))
