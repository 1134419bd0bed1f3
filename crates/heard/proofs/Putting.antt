-- Laws of writing a record's field.
use Prim.Native.Nat.{ℕ, suc, ◌+◌, ◌-◌, ◌*◌, ◌/◌, ◌%◌, ◌<◌, ◌≤◌}
use mathlib.Core.Path.{◌≡◌, refl, sym, ap, ◌∙◌}
use mathlib.Core.List.{◌∷◌, ◌++◌}
use native.Mathlib.Omega.{arith}
use lib.ListN.{length, get_or, take, drop, set, length-set, length-drop, take-append-drop}
use lib.Seq.{sets, length-sets, length-take-le, get_or-drop, drop-drop, drop-cons, take_all}
use Rattle.number.specs.Number.{two, two_at, four, word_at, two_bytes, four_bytes, word_bytes}
use Rattle.number.specs.Bytes.{part}
use Rattle.number.proofs.Eights.{Octets}
use Rattle.number.proofs.Numbers.{bytes_of_word, low_half, high_half}
use Rattle.field.specs.declared.words.Words.{Words}
use Rattle.field.specs.Words.{words_at}
use Rattle.field.specs.Cells.{field}
use Rattle.payload.specs.Content.{Bytes}
use Rattle.item.specs.Place.{Lies}
use Rattle.item.proofs.Sinking.{sets_append}
use Rattle.heard.specs.Place.{type_at, size_at, key_at, Payload}
use Rattle.heard.specs.Field.{record_field}
use Rattle.heard.specs.Compare.{Of}
use Rattle.heard.specs.Put.{Prefix, words_bytes, Holds}
use Rattle.heard.proofs.Keys.{byte_at, word_from, four_from, four_key_lem, six_key_lem, router_key_lem}
use Rattle.heard.proofs.Places.{least, long, third, size_least, size_most}
use Rattle.heard.proofs.Comparing.{lengths_at, six_long, key_octets, octets_cons}

-- ---- four_words, six_words

words_path : {a b c d a' b' c' d' : ℕ} → a ≡ a' → b ≡ b' → c ≡ c' → d ≡ d'
    → ◌≡◌ {A = Words} (record { first = a; second = b; third = c; last = d }) (record { first = a'; second = b'; third = c'; last = d' })
words_path p q r t = λ i. record { first = p i; second = q i; third = r i; last = t i }

module _ (s : Bytes) (at : ℕ) (o : Octets s) where
  abbrev b : ℕ → ℕ
  b j = byte_at s at j

  start_low : word_at s (at + 8) % 4_294_967_296 ≡ four (b 12) (b 13) (b 14) (b 15)
  start_low = let z : at + 8 + 4 ≡ at + 12 = omega arith in low_half s o (at + 8) ∙ rw z (four_from s at 12)

  module _ (f : Prefix s 4 20 at) (u w : ℕ) (d : u ≡ word_at s (at + 8)) (e : w ≡ word_at s (at + 12)) where
    pub four_words_is : ◌≡◌ {A = Words} (record { first = 0x0100170400000000 + u % 4_294_967_296; second = 0; third = u / 1_099_511_627_776 % 65_536 * 65_536 + w % 4_294_967_296 / 65_536; last = w % 4_294_967_296 % 65_536 }) (words_at (record_field (key_at s at)) 0)
    unfolding word_at field
    four_words_is =
        let z : at + 12 + 4 ≡ at + 16 = omega arith in
        let g : word_at s (at + 12) % 4_294_967_296 ≡ four (b 16) (b 17) (b 18) (b 19) = low_half s o (at + 12) ∙ rw z (four_from s at 16) in
        let h : four (b 16) (b 17) (b 18) (b 19) / 65_536 ≡ two (b 16) (b 17) = omega (arith, (o (at + 18)).fits, (o (at + 19)).fits) in
        let k : four (b 16) (b 17) (b 18) (b 19) % 65_536 ≡ two (b 18) (b 19) = omega (arith, (o (at + 18)).fits, (o (at + 19)).fits) in
        rw (d, e, four_key_lem s at f.type f.within, start_low, lengths_at s at o, g, h, k)
        (words_path (omega arith) (omega arith) (omega arith) refl)

  module _ (f : Prefix s 6 32 at) (u v w : ℕ) (d : u ≡ word_at s (at + 8)) (c : v ≡ word_at s (at + 16)) (e : w ≡ word_at s (at + 24)) where
    pub six_words_is : ◌≡◌ {A = Words} (record { first = 0x0100170600000000 + u % 4_294_967_296; second = v; third = (w / 4_294_967_296 * 65_536 + u / 1_099_511_627_776 % 65_536) * 65_536 + w % 4_294_967_296 / 65_536; last = w % 4_294_967_296 % 65_536 }) (words_at (record_field (key_at s at)) 0)
    unfolding word_at field
    six_words_is =
        let z : at + 24 + 4 ≡ at + 28 = omega arith in
        let g : word_at s (at + 24) % 4_294_967_296 ≡ four (b 28) (b 29) (b 30) (b 31) = low_half s o (at + 24) ∙ rw z (four_from s at 28) in
        let i : word_at s (at + 24) / 4_294_967_296 ≡ four (b 24) (b 25) (b 26) (b 27) = high_half s o (at + 24) ∙ four_from s at 24 in
        let h : four (b 28) (b 29) (b 30) (b 31) / 65_536 ≡ two (b 28) (b 29) = omega (arith, (o (at + 30)).fits, (o (at + 31)).fits) in
        let k : four (b 28) (b 29) (b 30) (b 31) % 65_536 ≡ two (b 30) (b 31) = omega (arith, (o (at + 30)).fits, (o (at + 31)).fits) in
        rw (d, c, e, six_key_lem s at f.type f.within, start_low, lengths_at s at o, g, i, h, k)
        (words_path (omega arith) (word_from s at 16) (omega arith) refl)

module _ (s : Bytes) (at : ℕ) where
  pub four_in : Prefix s 4 20 at → at + 8 + 8 ≤ length s
  four_in f = omega (arith, f.within)

  pub four_in_2 : Prefix s 4 20 at → at + 12 + 8 ≤ length s
  four_in_2 f = omega (arith, f.within)

  pub six_in : Prefix s 6 32 at → at + 8 + 8 ≤ length s
  six_in f = omega (arith, f.within)

  pub six_in_2 : Prefix s 6 32 at → at + 16 + 8 ≤ length s
  six_in_2 f = omega (arith, f.within)

  pub six_in_3 : Prefix s 6 32 at → at + 24 + 8 ≤ length s
  six_in_3 f = omega (arith, f.within)

pub ruleset wording = (four_words_is, four_in, four_in_2, six_words_is, six_in, six_in_2, six_in_3)

-- ---- store_words

word_length : (w : ℕ) → length (word_bytes w) ≡ 8
unfolding word_bytes four_bytes two_bytes
word_length w = refl

module _ (o : Bytes) (i : ℕ) (w : Words) (h : Holds o i w) where
  pub words_room : i + 8 ≤ length o
  words_room = omega (arith, h.room)

  pub words_small : w.last < 65_536
  words_small = h.last

  module _ (p : Bytes) (e : p ≡ sets o i (word_bytes w.first)) where
    pub words_room_2 : i + 8 + 8 ≤ length p
    words_room_2 = rw (e, length-sets o i (word_bytes w.first)) (omega (arith, h.room))

    module _ (q : Bytes) (f : q ≡ sets p (i + 8) (word_bytes w.second)) where
      q_length : length q ≡ length o
      q_length = rw (f, length-sets p (i + 8) (word_bytes w.second), e, length-sets o i (word_bytes w.first))

      pub words_room_3 : i + 16 + 8 ≤ length q
      words_room_3 = omega (arith, q_length, h.room)

      module _ (r : Bytes) (g : r ≡ sets q (i + 16) (word_bytes w.third)) where
        pub words_room_4 : i + 24 + 2 ≤ length r
        words_room_4 = rw (g, length-sets q (i + 16) (word_bytes w.third)) (omega (arith, q_length, h.room))

        pub words_stored : (t : Bytes) → t ≡ sets r (i + 24) (two_bytes w.last) → t ≡ sets o i (words_bytes w)
        words_stored t k =
            let z2 : i + 8 + 8 ≡ i + 16 = omega arith in
            let z3 : i + 16 + 8 ≡ i + 24 = omega arith in
            k ∙ rw (g, f, e, sets_append (word_bytes w.first) (word_bytes w.second ++ (word_bytes w.third ++ two_bytes w.last)) o i, word_length w.first, sets_append (word_bytes w.second) (word_bytes w.third ++ two_bytes w.last) (sets o i (word_bytes w.first)) (i + 8), word_length w.second, z2, sets_append (word_bytes w.third) (two_bytes w.last) (sets (sets o i (word_bytes w.first)) (i + 8) (word_bytes w.second)) (i + 16), word_length w.third, z3)

pub ruleset storing = (words_room, words_small, words_room_2, words_room_3, words_room_4, words_stored)

-- ---- put_record of a prefix

two_taken : (f : Bytes) → Octets f → (i : ℕ) → i + 2 ≤ length f → two_bytes (two_at f i) ≡ take 2 (drop i f)
unfolding two_bytes
two_taken f o i h =
    let g : i < length f = omega arith in
    let k : suc i < length f = omega arith in
    let e : i + 1 ≡ suc i = omega arith in
    let p : two (get_or f i 0) (get_or f (suc i) 0) / 256 ≡ get_or f i 0 = omega (arith, (o (suc i)).fits) in
    let q : two (get_or f i 0) (get_or f (suc i) 0) % 256 ≡ get_or f (suc i) 0 = omega (arith, (o (suc i)).fits) in
    rw (drop-cons f i 0 g, drop-cons f (suc i) 0 k, e, p, q)

-- 26 bytes are the bytes of their words
pub words_back : (f : Bytes) → Octets f → length f ≡ 26 → words_bytes (words_at f 0) ≡ f
words_back f o n =
    let e2 : two_bytes (two_at f 24) ≡ drop 24 f = two_taken f o 24 (omega arith) ∙ take_all 2 (drop 24 f) (simp length-drop (omega arith)) in
    let e1 : take 8 (drop 16 f) ++ drop 24 f ≡ drop 16 f = rw (drop-drop 8 16 f) at (take-append-drop 8 (drop 16 f)) in
    let e0 : take 8 (drop 8 f) ++ drop 16 f ≡ drop 8 f = rw (drop-drop 8 8 f) at (take-append-drop 8 (drop 8 f)) in
    rw (bytes_of_word f o 0 (omega arith), bytes_of_word f o 8 (omega arith), bytes_of_word f o 16 (omega arith), e2, e1, e0) (take-append-drop 8 f)

octets_drop : (k : Bytes) → Octets k → Octets (drop 1 k)
octets_drop k o i = rw (get_or-drop 1 k i 0) (o (1 + i))

-- the field of a record is bytes
pub field_octets : (k : Bytes) → Octets k → length (drop 1 k) < 65_536 → Octets (record_field k)
unfolding field
field_octets k o h =
    octets_cons (get_or k 0 0) (length (drop 1 k) / 256 ∷ length (drop 1 k) % 256 ∷ drop 1 k) (o 0).fits
    (octets_cons (length (drop 1 k) / 256) (length (drop 1 k) % 256 ∷ drop 1 k) (omega arith)
    (octets_cons (length (drop 1 k) % 256) (drop 1 k) (omega arith) (octets_drop k o)))

module _ (s : Bytes) (at : ℕ) (o : Octets s) (n : length (key_at s at) ≡ 24) where
  pub prefix_long : length (record_field (key_at s at)) ≡ 26
  unfolding field
  prefix_long = let e = length-drop 1 (key_at s at) in omega arith

  pub prefix_octets : Octets (record_field (key_at s at))
  prefix_octets = field_octets (key_at s at) (key_octets s at o) (omega (arith, length-drop 1 (key_at s at)))

  pub prefix_last : (w : Words) → w ≡ words_at (record_field (key_at s at)) 0 → w.last < 65_536
  prefix_last w e = rw e (omega (arith, (prefix_octets 24).fits, (prefix_octets 25).fits))

  prefix_stored : (w : Words) → w ≡ words_at (record_field (key_at s at)) 0 → (p q : Bytes) (i : ℕ) → q ≡ sets p i (words_bytes w) → q ≡ sets p i (record_field (key_at s at))
  prefix_stored w e p q i f = f ∙ ap (sets p i) (ap words_bytes e ∙ words_back (record_field (key_at s at)) prefix_octets prefix_long)

-- the length of a prefix's record
pub four_24 : (s : Bytes) (at : ℕ) → Payload s at → type_at s at ≡ 4 → length (key_at s at) ≡ 24
four_24 s at p t = rw (four_key_lem s at t (least s at p))

pub six_24 : (s : Bytes) (at : ℕ) → Octets s → Payload s at → type_at s at ≡ 6 → length (key_at s at) ≡ 24
six_24 s at o p t = rw (six_key_lem s at t (six_long s at o (record { payload = p; type = t })))

module _ (s : Bytes) (at : ℕ) (o : Octets s) (p : Payload s at) (k : ℕ) (d : k ≡ type_at s at) where
  pub put_four : k ≡ 4 → Prefix s 4 20 at
  put_four e = record { type = sym d ∙ e; within = least s at p }

  pub put_six : k ≡ 6 → Prefix s 6 32 at
  put_six e = record { type = sym d ∙ e; within = long s at p (λ h. let z : ◌≡◌ {A = ℕ} 4 6 = sym h ∙ (sym d ∙ e) in omega arith) }

  pub put_keyed : (k ≡ 4 → ⊥) → (k ≡ 6 → ⊥) → Of s 9 at
  put_keyed g h = record { payload = p; type = third s at p (λ e. g (d ∙ e)) (λ e. h (d ∙ e)) }

  module _ (e : k ≡ 4) where
    pub four_size : 26 ≡ length (record_field (key_at s at))
    four_size = sym (prefix_long s at o (four_24 s at p (sym d ∙ e)))

    module _ (w : Words) (f : w ≡ words_at (record_field (key_at s at)) 0) (out : Bytes) (i : ℕ) where
      pub four_holds : i + length (record_field (key_at s at)) ≤ length out → Holds out i w
      four_holds h = record { room = omega (arith, four_size); last = prefix_last s at o (four_24 s at p (sym d ∙ e)) w f }

      pub four_put : (q : Bytes) → q ≡ sets out i (words_bytes w) → q ≡ sets out i (record_field (key_at s at))
      four_put q g = prefix_stored s at o (four_24 s at p (sym d ∙ e)) w f out q i g

  module _ (e : k ≡ 6) where
    pub six_size : 26 ≡ length (record_field (key_at s at))
    six_size = sym (prefix_long s at o (six_24 s at o p (sym d ∙ e)))

    module _ (w : Words) (f : w ≡ words_at (record_field (key_at s at)) 0) (out : Bytes) (i : ℕ) where
      pub six_holds : i + length (record_field (key_at s at)) ≤ length out → Holds out i w
      six_holds h = record { room = omega (arith, six_size); last = prefix_last s at o (six_24 s at o p (sym d ∙ e)) w f }

      pub six_put : (q : Bytes) → q ≡ sets out i (words_bytes w) → q ≡ sets out i (record_field (key_at s at))
      six_put q g = prefix_stored s at o (six_24 s at o p (sym d ∙ e)) w f out q i g

pub ruleset records = (put_four, put_six, put_keyed, four_size, four_holds, four_put, six_size, six_holds, six_put)

-- ---- put_key

module _ (s : Bytes) (at : ℕ) (f : Of s 9 at) where
  abbrev body : Bytes
  body = part s (at + 8) (at + size_at s at)

  body_long : length body ≡ size_at s at - 8
  body_long = length-take-le (at + size_at s at - (at + 8)) (drop (at + 8) s) (simp length-drop (omega (arith, f.payload.within))) ∙ omega arith

  field_long : length (record_field (key_at s at)) ≡ size_at s at - 5
  unfolding field
  field_long = rw (router_key_lem s at f.type) (omega (arith, body_long, size_least s at f.payload))

  pub put_payload : Payload s at
  put_payload = f.payload

  module _ (n : ℕ) (e : n ≡ size_at s at) where
    pub key_size_lem : n - 5 ≡ length (record_field (key_at s at))
    key_size_lem = omega (arith, field_long)

    module _ (o : Bytes) (i : ℕ) (h : i + length (record_field (key_at s at)) ≤ length o) where
      room : i + (n - 5) ≤ length o
      room = omega (arith, field_long)

      pub key_head : i < length o
      key_head = omega (arith, room, size_least s at f.payload)

      pub key_two : (p : Bytes) → p ≡ set o i 2 → i + 1 + 2 ≤ length p
      key_two p g = rw (g, length-set o i 2) (omega (arith, room, size_least s at f.payload))

      pub key_small : n - 8 < 65_536
      key_small = omega (arith, size_most s at f.payload)

      pub key_put : (p₀ p q : Bytes) → p₀ ≡ set o i 2 → p ≡ sets p₀ (i + 1) (two_bytes (n - 8)) → q ≡ sets p (i + 3) (part s (at + 8) (at + n)) → q ≡ sets o i (record_field (key_at s at))
      unfolding field two_bytes
      key_put p₀ p q m g k =
          let j : i + 1 ≡ suc i = omega arith in
          let l : i + 3 ≡ suc (suc (suc i)) = omega arith in
          k ∙ rw (g, m, l, j, e, router_key_lem s at f.type, body_long)

    pub key_lies : Lies s (record { from = at + 8; to = at + n })
    key_lies = record { ordered = omega (arith, size_least s at f.payload); within = omega (arith, f.payload.within) }

pub ruleset routers = (put_payload, key_size_lem, key_head, key_two, key_small, key_put, key_lies)
