-- Laws of the check of a payload message.
use Prim.Native.Nat.{ℕ, ◌+◌, ◌-◌, ◌<◌, ◌≤◌}
use mathlib.Core.Path.{◌≡◌, refl, sym, ap, ◌∙◌}
use mathlib.Core.List.{[], ◌++◌}
use mathlib.Core.Bool.{Bool, true, false, not, ◌&&◌, and-false}
use native.Mathlib.Omega.{arith}
use native.Mathlib.Decide.{dec_le}
use borrow.Author.Tests.{eq-eqb, ne_eqb, le-leb, lt-leb, not-true, not-false}
use lib.Dec.{leb, eqb}
use lib.ListN.{length, get_or, take, drop, length-drop, drop_of_length-le}
use lib.Seq.{sets, sets-eq, length-take-le}
use Rattle.number.specs.Number.{two_bytes, four_bytes, word_bytes}
use Rattle.number.specs.Bytes.{part}
use Rattle.number.proofs.Eights.{Octets}
use Rattle.body.specs.Origin.{good_origin}
use Rattle.body.specs.RouterKey.{good_router_key}
use Rattle.body.specs.Tag.{tag_of, good_body}
use Rattle.field.specs.declared.words.Words.{Words}
use Rattle.field.specs.Cells.{field}
use Rattle.field.specs.Words.{words_at}
use Rattle.payload.specs.Content.{Bytes}
use Rattle.message.specs.declared.version.Version.{Version}
use Rattle.message.specs.Version.{speaks}
use Rattle.message.specs.Record.{good_record}
use Rattle.heard.specs.Place.{type_at, size_at, key_at}
use Rattle.heard.specs.Field.{record_field}
use Rattle.heard.specs.Put.{Prefix, words_bytes}
use Rattle.heard.specs.Step.{Framed, sized_at, payload_at}
use Rattle.heard.proofs.Keys.{four_key_lem, six_key_lem, router_key_lem}
use Rattle.heard.proofs.Putting.{words_back, prefix_long, prefix_octets, prefix_last}

-- ---- words_good

whole_body : (w : Words) → take 23 (drop 3 (words_bytes w ++ [])) ≡ drop 3 (words_bytes w)
unfolding word_bytes four_bytes two_bytes
whole_body w = refl

bytes_26 : (w : Words) → length (words_bytes w) ≡ 26
unfolding word_bytes four_bytes two_bytes
bytes_26 w = refl

pub words_good : (o q : Bytes) (w : Words) (r : Bool) → length o ≡ 26 → q ≡ sets o 0 (words_bytes w) → r ≡ good_origin (part q 3 26) → r ≡ good_origin (drop 3 (words_bytes w))
words_good o q w r n e f =
    let n0 = bytes_26 w in
    let z : drop (0 + length (words_bytes w)) o ≡ [] = drop_of_length-le o {i = 0 + length (words_bytes w)} (omega arith) in
    let g : q ≡ words_bytes w ++ [] = e ∙ sets-eq (words_bytes w) o 0 (omega arith) ∙ rw z in
    f ∙ rw g (ap good_origin (whole_body w))

-- ---- four_good, six_good

module _ (s : Bytes) (at : ℕ) (o : Octets s) (n : length (key_at s at) ≡ 24) (k : get_or (key_at s at) 0 0 ≡ 1) (w : Words) (e : w ≡ words_at (record_field (key_at s at)) 0) where
  good_is : (r : Bool) → r ≡ good_origin (drop 3 (words_bytes w)) → r ≡ good_record (key_at s at)
  unfolding good_body tag_of field
  good_is r f =
      let b : words_bytes w ≡ record_field (key_at s at) = ap words_bytes e ∙ words_back (record_field (key_at s at)) (prefix_octets s at o n) (prefix_long s at o n) in
      f ∙ rw (b, k)

module _ (s : Bytes) (at : ℕ) (o : Octets s) (w : Words) (e : w ≡ words_at (record_field (key_at s at)) 0) where
  module _ (f : Prefix s 4 20 at) where
    pub four_last_small : w.last < 65_536
    four_last_small = prefix_last s at o (rw (four_key_lem s at f.type f.within)) w e

    pub four_good_is : (r : Bool) → r ≡ good_origin (drop 3 (words_bytes w)) → r ≡ good_record (key_at s at)
    four_good_is r g = good_is s at o (rw (four_key_lem s at f.type f.within)) (rw (four_key_lem s at f.type f.within)) w e r g

  module _ (f : Prefix s 6 32 at) where
    pub six_last_small : w.last < 65_536
    six_last_small = prefix_last s at o (rw (six_key_lem s at f.type f.within)) w e

    pub six_good_is : (r : Bool) → r ≡ good_origin (drop 3 (words_bytes w)) → r ≡ good_record (key_at s at)
    six_good_is r g = good_is s at o (rw (six_key_lem s at f.type f.within)) (rw (six_key_lem s at f.type f.within)) w e r g

pub ruleset goods = (words_good, four_last_small, four_good_is, six_last_small, six_good_is)

-- ---- is_payload

module _ (v : Version) (s : Bytes) (at size : ℕ) (f : Framed s at size) where
  pub framed_1 : at + 1 < length s
  framed_1 = omega (arith, f.head)

  pub framed_2 : at + 2 < length s
  framed_2 = omega (arith, f.head)

  module _ (t : type_at s at ≡ 4) where
    pub four_missized : (size ≡ 20 → ⊥) → false ≡ payload_at v s at
    unfolding payload_at sized_at
    four_missized h = rw (t, ← f.is, ne_eqb size 20 h)

    module _ (e : size ≡ 20) where
      pub four_prefix : Prefix s 4 20 at
      four_prefix = record { type = t; within = omega (arith, f.within) }

      pub four_flags_in : at + 8 < length s
      four_flags_in = omega (arith, f.within)

      pub four_misflagged : 1 < get_or s (at + 8) 0 → false ≡ payload_at v s at
      unfolding payload_at sized_at
      four_misflagged h = rw (t, lt-leb (get_or s (at + 8) 0) 1 h) (sym (and-false (eqb (size_at s at) 20)))

      pub four_payload : get_or s (at + 8) 0 ≤ 1 → (r : Bool) → r ≡ good_record (key_at s at) → r ≡ payload_at v s at
      unfolding payload_at sized_at
      four_payload h r g = rw (t, ← f.is, eq-eqb size 20 e, le-leb (get_or s (at + 8) 0) 1 h) g

  module _ (t : type_at s at ≡ 6) where
    pub six_missized : (size ≡ 32 → ⊥) → false ≡ payload_at v s at
    unfolding payload_at sized_at
    six_missized h = rw (t, ← f.is, ne_eqb size 32 h)

    module _ (e : size ≡ 32) where
      pub six_prefix : Prefix s 6 32 at
      six_prefix = record { type = t; within = omega (arith, f.within) }

      pub six_flags_in : at + 8 < length s
      six_flags_in = omega (arith, f.within)

      pub six_misflagged : 1 < get_or s (at + 8) 0 → false ≡ payload_at v s at
      unfolding payload_at sized_at
      six_misflagged h = rw (t, lt-leb (get_or s (at + 8) 0) 1 h) (sym (and-false (eqb (size_at s at) 32)))

      pub six_payload : get_or s (at + 8) 0 ≤ 1 → (r : Bool) → r ≡ good_record (key_at s at) → r ≡ payload_at v s at
      unfolding payload_at sized_at
      six_payload h r g = rw (t, ← f.is, eq-eqb size 32 e, le-leb (get_or s (at + 8) 0) 1 h) g

  pub other_type : (type_at s at ≡ 4 → ⊥) → (type_at s at ≡ 6 → ⊥) → (type_at s at ≡ 9 → ⊥) → false ≡ payload_at v s at
  unfolding payload_at sized_at
  other_type g h k = rw (ne_eqb (type_at s at) 4 g, ne_eqb (type_at s at) 6 h, ne_eqb (type_at s at) 9 k)

  module _ (t : type_at s at ≡ 9) (b : Bool) (d : b ≡ speaks v 2) where
    pub key_unspoken : not b ≡ true → false ≡ payload_at v s at
    unfolding payload_at sized_at
    key_unspoken h = rw (t, ← d, not-true b h)

    module _ (y : not b ≡ false) where
      pub key_short : size < 32 → false ≡ payload_at v s at
      unfolding payload_at sized_at
      key_short h = rw (t, ← f.is, ← d, not-false b y, lt-leb 32 size h)

      module _ (l : 32 ≤ size) where
        pub key_misflagged : 1 < get_or s (at + 2) 0 → false ≡ payload_at v s at
        unfolding payload_at sized_at
        key_misflagged h = rw (t, lt-leb (get_or s (at + 2) 0) 1 h) (sym (and-false (speaks v 2 && leb 32 (size_at s at))))

        key_good : good_record (key_at s at) ≡ leb size 1_056
        unfolding good_body tag_of good_router_key
        key_good =
            let n : length (part s (at + 8) (at + size_at s at)) ≡ size - 8 = length-take-le (at + size_at s at - (at + 8)) (drop (at + 8) s) (simp length-drop (omega (arith, f.within, f.is))) ∙ omega (arith, f.is) in
            rw (router_key_lem s at t, n, le-leb 24 (size - 8) (omega arith))
            (elim (dec_le size 1_056) [
              | yes h ↦ le-leb (size - 8 - 24) 1_024 (omega arith) ∙ sym (le-leb size 1_056 h)
              | no h ↦ lt-leb (size - 8 - 24) 1_024 (omega arith) ∙ sym (lt-leb size 1_056 (omega arith))
            ])

        pub key_payload : get_or s (at + 2) 0 ≤ 1 → leb size 1_056 ≡ payload_at v s at
        unfolding payload_at sized_at
        key_payload h = let g = key_good in rw (t, ← f.is, ← d, not-false b y, le-leb 32 size l, le-leb (get_or s (at + 2) 0) 1 h) (sym g)

pub ruleset checking = (framed_1, framed_2, four_missized, four_prefix, four_flags_in, four_misflagged, four_payload, six_missized, six_prefix, six_flags_in, six_misflagged, six_payload, other_type, key_unspoken, key_short, key_misflagged, key_payload)
