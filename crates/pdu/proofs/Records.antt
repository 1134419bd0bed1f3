-- Laws of the messages of records.
use Prim.Native.Nat.{ℕ, ◌+◌, ◌-◌, ◌/◌, ◌%◌, ◌<◌, ◌≤◌, ◌^◌}
use mathlib.Core.Path.{◌≡◌, refl, sym, ap, ap₂, ◌∙◌}
use mathlib.Core.List.{[], ◌∷◌, ◌++◌}
use mathlib.Core.Bool.{Bool, true, false, cond}
use native.Mathlib.Omega.{arith}
use borrow.Author.Tests.{eq-eqb, ne_eqb, eqb-true, eqb-false}
use mir.Syntax.{w8}
use mir.Val.{Fits}
use lib.Dec.{eqb}
use lib.ListN.{length, get_or, take, drop, length-take, length-drop, length-append, take-append-drop}
use lib.Seq.{sets, length-sets, get_or-take, get_or-drop, take-take, drop-drop, take-add, length-take-le}
use Rattle.number.specs.Number.{two_bytes, four_bytes, word_at, word_bytes}
use Rattle.number.specs.Bytes.{part}
use Rattle.number.proofs.Numbers.{bytes_of_word, high_half, low_half, bytes_of_four}
use Rattle.body.specs.Origin.{family, address}
use Rattle.field.specs.declared.key.Key.{Key}
use Rattle.field.specs.Places.{key_in}
use Rattle.payload.specs.Content.{Bytes}
use Rattle.item.specs.declared.place.Part.{Part}
use Rattle.item.specs.Place.{part_in, Lies}
use Rattle.item.proofs.Places.{drop_take}
use Rattle.message.specs.declared.version.Version.{Version}
use Rattle.message.specs.Message.{header, pdu}
use Rattle.message.specs.Record.{message_of, router_key_of}
use Rattle.pdu.specs.Write.{ipv4_of, ipv6_of, lengths_of, size_of, Lies23, Body, Sayable, PutIs}
use Rattle.pdu.proofs.Heads.{join}
use Rattle.pdu.proofs.Fixing.{four, eight}

-- ---- an origin

module _ (s : Bytes) (from : ℕ) where
  abbrev body : Bytes
  body = part s from (from + 23)

  body_at : (k : ℕ) → k < 23 → get_or body k 0 ≡ get_or s (from + k) 0
  body_at k h = get_or-take (from + 23 - from) (drop from s) k 0 (omega arith) ∙ get_or-drop from s k 0

  pub lengths_are : (o p : Bytes) (i flags : ℕ) → p ≡ sets o i (flags ∷ get_or s (from + 17) 0 ∷ get_or s (from + 18) 0 ∷ 0 ∷ []) → p ≡ sets o i (lengths_of flags body)
  lengths_are o p i flags e = rw (body_at 17 (omega arith), body_at 18 (omega arith)) e

  -- the body from its a-th byte on
  body_from : (a : ℕ) → a ≤ 23 → drop a body ≡ take (23 - a) (drop (from + a) s)
  body_from a h =
      let e : from + 23 - from - a ≡ 23 - a = omega arith in
      drop_take a (from + 23 - from) (drop from s) ∙ rw (e, drop-drop a from s)

  address_is : address body ≡ take 16 (drop (from + 1) s)
  address_is = ap (take 16) (body_from 1 (omega arith)) ∙ take-take 16 22 (drop (from + 1) s) (omega arith)

  -- the bytes of a word's halves
  module _ (octets : (i : ℕ) → Fits w8 (get_or s i 0)) (j : ℕ) (h : j + 8 ≤ length s) where
    high_four : four_bytes (word_at s j / 4_294_967_296) ≡ take 4 (drop j s)
    high_four = ap four_bytes (high_half s octets j) ∙ bytes_of_four s octets j (omega arith)

    low_four : four_bytes (word_at s j % 4_294_967_296) ≡ take 4 (drop (j + 4) s)
    low_four = ap four_bytes (low_half s octets j) ∙ bytes_of_four s octets (j + 4) (omega arith)

  module _ (octets : (i : ℕ) → Fits w8 (get_or s i 0)) (l : Lies23 s from) where
    pub asn_is : (o p : Bytes) (i w : ℕ) → w ≡ word_at s (from + 15) → p ≡ sets o i (four_bytes (w % 4_294_967_296)) → p ≡ sets o i (part s (from + 19) (from + 23))
    asn_is o p i w e f =
        let a : from + 15 + 4 ≡ from + 19 = omega arith in
        let b : from + 23 - (from + 19) ≡ 4 = omega arith in
        let g : four_bytes (word_at s (from + 15) % 4_294_967_296) ≡ take 4 (drop (from + 15 + 4) s) = low_four octets (from + 15) (omega (arith, l.within)) in
        let k : four_bytes (w % 4_294_967_296) ≡ part s (from + 19) (from + 23) = rw (e, b) (rw a at g) in
        f ∙ ap (sets o i) k

    last_is : part s (from + 19) (from + 23) ≡ drop 19 body
    last_is = let b : from + 23 - (from + 19) ≡ 4 = omega arith in rw b (sym (body_from 19 (omega arith)))

    address_length : length (address body) ≡ 16
    address_length = ap length address_is ∙ length-take-le 16 (drop (from + 1) s) (simp length-drop (omega (arith, l.within)))

    pub address_put : (o p q : Bytes) (i w x : ℕ) → w ≡ word_at s (from + 1) → p ≡ sets o i (word_bytes w) → x ≡ word_at s (from + 9) → q ≡ sets p (i + 8) (word_bytes x) →
        q ≡ sets o i (address body)
    address_put o p q i w x ew ep ex eq =
        let a : word_bytes w ≡ take 8 (drop (from + 1) s) = ap word_bytes ew ∙ bytes_of_word s octets (from + 1) (omega (arith, l.within)) in
        let b : word_bytes x ≡ take 8 (drop (from + 9) s) = ap word_bytes ex ∙ bytes_of_word s octets (from + 9) (omega (arith, l.within)) in
        let k : from + 1 + 8 ≡ from + 9 = omega arith in
        let g : word_bytes w ++ word_bytes x ≡ address body =
        ap₂ (λ (y z : Bytes). y ++ z) a b
        ∙ sym (address_is ∙ take-add 8 8 (drop (from + 1) s) ∙ ap (λ (y : Bytes). take 8 (drop (from + 1) s) ++ take 8 y) (drop-drop 8 (from + 1) s ∙ ap (λ (y : ℕ). drop y s) k)) in
        let n : length (word_bytes w) ≡ 8 = ap length a ∙ length-take-le 8 (drop (from + 1) s) (simp length-drop (omega (arith, l.within))) in
        join o p q (word_bytes w) (word_bytes x) i (i + 8) ep (omega (arith, n)) eq ∙ ap (sets o i) g

    module _ (v : Version) (flags : ℕ) (o p q : Bytes) (i : ℕ) (eq : q ≡ sets p (i + 8) (lengths_of flags body)) where
      pub ipv4_is : (r t : Bytes) (w : ℕ) → p ≡ sets o i (header v 4 (0 ∷ 0 ∷ []) 20) → w ≡ word_at s (from + 1) → r ≡ sets q (i + 12) (four_bytes (w / 4_294_967_296)) →
          t ≡ sets r (i + 16) (part s (from + 19) (from + 23)) → t ≡ sets o i (pdu v (ipv4_of flags body))
      unfolding pdu
      ipv4_is r t w ep ew er et =
          let a : four_bytes (w / 4_294_967_296) ≡ take 4 (address body) =
          ap (λ (x : ℕ). four_bytes (x / 4_294_967_296)) ew ∙ high_four octets (from + 1) (omega (arith, l.within))
          ∙ sym (ap (take 4) address_is ∙ take-take 4 16 (drop (from + 1) s) (omega arith)) in
          let er₂ : r ≡ sets q (i + 12) (take 4 (address body)) = er ∙ ap (sets q (i + 12)) a in
          let et₂ : t ≡ sets r (i + 16) (drop 19 body) = et ∙ ap (sets r (i + 16)) last_is in
          let n : length (take 4 (address body)) ≡ 4 = ap length (sym a) ∙ four (w / 4_294_967_296) in
          join o p t (header v 4 (0 ∷ 0 ∷ []) 20) (lengths_of flags body ++ (take 4 (address body) ++ drop 19 body)) i (i + 8) ep (omega (arith, eight v 4 20 (0 ∷ 0 ∷ []) refl))
          (join p q t (lengths_of flags body) (take 4 (address body) ++ drop 19 body) (i + 8) (i + 12) eq (omega arith)
          (join q r t (take 4 (address body)) (drop 19 body) (i + 12) (i + 16) er₂ (omega (arith, n)) et₂))

      pub ipv6_is : (r t : Bytes) → p ≡ sets o i (header v 6 (0 ∷ 0 ∷ []) 32) → r ≡ sets q (i + 12) (address body) →
          t ≡ sets r (i + 28) (part s (from + 19) (from + 23)) → t ≡ sets o i (pdu v (ipv6_of flags body))
      unfolding pdu
      ipv6_is r t ep er et =
          let et₂ : t ≡ sets r (i + 28) (drop 19 body) = et ∙ ap (sets r (i + 28)) last_is in
          join o p t (header v 6 (0 ∷ 0 ∷ []) 32) (lengths_of flags body ++ (address body ++ drop 19 body)) i (i + 8) ep (omega (arith, eight v 6 32 (0 ∷ 0 ∷ []) refl))
          (join p q t (lengths_of flags body) (address body ++ drop 19 body) (i + 8) (i + 12) eq (omega arith)
          (join q r t (address body) (drop 19 body) (i + 12) (i + 28) er (omega (arith, address_length)) et₂))

pub ruleset prefixes = (lengths_are, asn_is, address_put, ipv4_is, ipv6_is)

-- ---- a router key

module _ (s : Bytes) (p : Part) (b : Body s p) where
  pub body_lies : Lies s p
  body_lies = record { ordered = omega (arith, b.long); within = b.within }

  pub body_ordered : p.from ≤ p.to
  body_ordered = omega (arith, b.long)

  pub body_small : 8 + (p.to - p.from) < 4_294_967_296
  body_small = omega (arith, b.short)

  pub body_sum : 8 + (p.to - p.from) < 2 ^ 64
  body_sum = omega (arith, b.short)

  body_length : length (part s p.from p.to) ≡ p.to - p.from
  body_length = length-take-le (p.to - p.from) (drop p.from s) (simp length-drop (omega (arith, b.within)))

  pub key_is : (v : Version) (flags : ℕ) (o q r : Bytes) (i : ℕ) → q ≡ sets o i (header v 9 (flags ∷ 0 ∷ []) (8 + (p.to - p.from))) →
      r ≡ sets q (i + 8) (part_in s p) → r ≡ sets o i (pdu v (router_key_of flags (part s p.from p.to)))
  unfolding pdu
  key_is v flags o q r i eq er =
      let k : Bytes = part s p.from p.to in
      let n : 8 + (p.to - p.from) ≡ 32 + length (drop 24 k) = simp length-drop (omega (arith, body_length, b.long)) in
      let w : k ≡ take 20 k ++ (take 4 (drop 20 k) ++ drop 24 k) =
      sym (ap (λ (x : Bytes). take 20 k ++ (take 4 (drop 20 k) ++ x)) (sym (drop-drop 4 20 k)) ∙ ap (λ (x : Bytes). take 20 k ++ x) (take-append-drop 4 (drop 20 k)) ∙ take-append-drop 20 k) in
      let er₂ : r ≡ sets q (i + 8) (take 20 k ++ (take 4 (drop 20 k) ++ drop 24 k)) = er ∙ ap (sets q (i + 8)) w in
      rw n at (join o q r (header v 9 (flags ∷ 0 ∷ []) (8 + (p.to - p.from))) (take 20 k ++ (take 4 (drop 20 k) ++ drop 24 k)) i (i + 8) eq
      (omega (arith, eight v 9 (8 + (p.to - p.from)) (flags ∷ 0 ∷ []) refl)) er₂)

pub ruleset keys = (body_lies, body_ordered, body_small, body_sum, key_is)

-- ---- any record

module _ (s : Bytes) (k : Key) (y : Sayable s k) where
  name_length : length (part s k.from k.to) ≡ k.to - k.from
  name_length = let f = y.inside.fits in length-take-le (k.to - k.from) (drop k.from s) (simp length-drop (omega (arith, f.ordered, f.within)))

  module _ (h : k.kind ≡ 1 → ⊥) where
    pub other_ordered : k.from ≤ k.to
    other_ordered = y.inside.fits.ordered

    pub other_sum : 8 + (k.to - k.from) < 2 ^ 64
    other_sum = omega (arith, y.inside.short)

    pub other_size : 8 + (k.to - k.from) ≡ size_of (key_in s k)
    other_size = rw (ne_eqb k.kind 1 h, name_length)

    pub other_body : Body s (record { from = k.from; to = k.to })
    other_body = record { long = y.other h; short = y.inside.short; within = y.inside.fits.within }

    pub other_room : (n i : ℕ) → i + size_of (key_in s k) ≤ n → i + (8 + (k.to - k.from)) ≤ n
    other_room n i g = rw other_size g

    pub other_is : (v : Version) (flags : ℕ) (o p : Bytes) (i : ℕ) → p ≡ sets o i (pdu v (router_key_of flags (part s k.from k.to))) →
        p ≡ sets o i (pdu v (message_of flags (key_in s k)))
    unfolding message_of
    other_is v flags o p i e = rw (ne_eqb k.kind 1 h) e

  module _ (h : k.kind ≡ 1) where
    pub origin_lies : Lies23 s k.from
    origin_lies = record { within = omega (arith, y.origin h, y.inside.fits.within) }

    pub origin_inside : k.from < length s
    origin_inside = omega (arith, y.origin h, y.inside.fits.within)

    name_is : part s k.from k.to ≡ part s k.from (k.from + 23)
    name_is = rw (y.origin h)

    family_is : family (part s k.from k.to) ≡ get_or s k.from 0
    family_is = let e : k.from + 0 ≡ k.from = omega arith in rw name_is (body_at s k.from 0 (omega arith) ∙ rw e)

    module _ (g : get_or s k.from 0 ≡ 4) where
      pub ipv4_size : 20 ≡ size_of (key_in s k)
      ipv4_size = rw (eq-eqb k.kind 1 h, family_is, g)

      pub ipv4_room : (n i : ℕ) → i + size_of (key_in s k) ≤ n → i + 20 ≤ n
      ipv4_room n i e = rw ipv4_size e

      pub ipv4_message_lem : (v : Version) (flags : ℕ) (o p : Bytes) (i : ℕ) → p ≡ sets o i (pdu v (ipv4_of flags (part s k.from (k.from + 23)))) →
          p ≡ sets o i (pdu v (message_of flags (key_in s k)))
      unfolding message_of
      ipv4_message_lem v flags o p i e = rw (eq-eqb k.kind 1 h, family_is, g, name_is) e

    module _ (g : get_or s k.from 0 ≡ 4 → ⊥) where
      pub ipv6_size : 32 ≡ size_of (key_in s k)
      ipv6_size = rw (eq-eqb k.kind 1 h, family_is, ne_eqb (get_or s k.from 0) 4 g)

      pub ipv6_room : (n i : ℕ) → i + size_of (key_in s k) ≤ n → i + 32 ≤ n
      ipv6_room n i e = rw ipv6_size e

      pub ipv6_message_lem : (v : Version) (flags : ℕ) (o p : Bytes) (i : ℕ) → p ≡ sets o i (pdu v (ipv6_of flags (part s k.from (k.from + 23)))) →
          p ≡ sets o i (pdu v (message_of flags (key_in s k)))
      unfolding message_of
      ipv6_message_lem v flags o p i e = rw (eq-eqb k.kind 1 h, family_is, ne_eqb (get_or s k.from 0) 4 g, name_is) e

pub ruleset choosing = (other_ordered, other_sum, other_size, other_body, other_room, other_is, origin_lies, origin_inside, ipv4_size, ipv4_room, ipv4_message_lem, ipv6_size, ipv6_room, ipv6_message_lem)

-- ---- lengths

module _ (v : Version) (flags : ℕ) (b : Bytes) where
  pub ipv4_length : length b ≡ 23 → length (pdu v (ipv4_of flags b)) ≡ 20
  unfolding pdu two_bytes four_bytes
  ipv4_length h = simp (length-append, length-take, length-drop, h)

  pub ipv6_length : length b ≡ 23 → length (pdu v (ipv6_of flags b)) ≡ 32
  unfolding pdu two_bytes four_bytes
  ipv6_length h = simp (length-append, length-take, length-drop, h)

  pub key_length : 24 ≤ length b → length (pdu v (router_key_of flags b)) ≡ 8 + length b
  unfolding pdu two_bytes four_bytes
  key_length h = simp (length-append, length-take, length-drop) (omega arith)

-- ---- put_message

module _ (s : Bytes) (k : Key) (y : Sayable s k) (n : ℕ) (e : n ≡ size_of (key_in s k)) where
  size_small : n ≤ 1_056
  size_small = go (eqb k.kind 1) (eqb (family (part s k.from k.to)) 4) e
    where
      go : (t u : Bool) → n ≡ cond t (cond u 20 32) (8 + length (part s k.from k.to)) → n ≤ 1_056
      go true true d = omega arith
      go true false d = omega arith
      go false u d = omega (arith, name_length s k y, y.inside.short)

  pub end_small : (i : ℕ) → i < 2 ^ 62 → i + n < 2 ^ 64
  end_small i h = let z = size_small in omega arith

  pub size_room : (i m : ℕ) → i + n ≤ m → i + size_of (key_in s k) ≤ m
  size_room i m h = rw (← e) h

  module _ (v : Version) (flags : ℕ) where
    abbrev bytes : Bytes
    bytes = pdu v (message_of flags (key_in s k))

    size_is : n ≡ length bytes
    unfolding message_of
    size_is = go (eqb k.kind 1) (eqb (family b) 4) refl refl
      where
        b : Bytes
        b = part s k.from k.to

        long : eqb k.kind 1 ≡ true → length b ≡ 23
        long d = name_length s k y ∙ omega (arith, y.origin (eqb-true k.kind 1 d))

        go : (t u : Bool) → eqb k.kind 1 ≡ t → eqb (family b) 4 ≡ u → n ≡ length (pdu v (cond t (cond u (ipv4_of flags b) (ipv6_of flags b)) (router_key_of flags b)))
        go true true f g = e ∙ rw (f, g) (sym (ipv4_length v flags b (long f)))
        go true false f g = e ∙ rw (f, g) (sym (ipv6_length v flags b (long f)))
        go false u f g = e ∙ rw f (sym (key_length v flags b (omega (arith, name_length s k y, y.other (eqb-false k.kind 1 f)))))

    pub no_room : (o : Bytes) (i : ℕ) → length o < i + n → PutIs bytes o i o n
    no_room o i h = record { size = size_is; small = size_small; same = refl; laid = λ g. absurd (let z = size_is in omega arith) }

    pub put_all : (o p : Bytes) (i : ℕ) → p ≡ sets o i bytes → PutIs bytes o i p n
    put_all o p i f = record { size = size_is; small = size_small; same = ap length f ∙ length-sets o i bytes; laid = λ g. f }

pub ruleset placing = (end_small, size_room, no_room, put_all)
