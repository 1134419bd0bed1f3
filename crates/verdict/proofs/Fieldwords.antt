-- What the words of an origin's field say.
use Prim.Native.Nat.{ℕ, ◌+◌, ◌-◌, ◌*◌, ◌/◌, ◌%◌, ◌^◌, ◌<◌, ◌≤◌}
use mathlib.Core.Path.{◌≡◌, refl, sym, ◌∙◌}
use mathlib.Core.List.{List}
use mathlib.Core.Bool.{Bool, true, false, not, cond, ◌||◌, false≢true}
use native.Mathlib.Nat.{div-lt_iff_lt-mul}
use native.Mathlib.Omega.{arith}
use borrow.Author.Tests.{le-leb, lt-leb, eq-eqb, ne_eqb, eqb-true, not-false}
use mir.Syntax.{w64}
use mir.Val.{Fits}
use lib.Dec.{ltb, eqb}
use lib.ListN.{length, get_or, drop, length-take, length-drop}
use lib.Seq.{get_or-take, get_or-drop}
use Rattle.std.specs.declared.cmp.Ordering.{Ordering}
use Rattle.std.specs.declared.cmp.Ordering.TheVariants.{Less, Equal, Greater}
use Rattle.order.specs.Comparison.{or_else, number, bytes, is_less}
use Rattle.order.proofs.Comparison.{number_less, number_equal, number_greater}
use Rattle.number.specs.Number.{two_at, four_at, word_at}
use Rattle.number.specs.Bytes.{part}
use Rattle.number.proofs.Eights.{Octets, digits, two_digits, word_digits, part_bytes, part_digits, digits_decide, word_read}
use Rattle.number.proofs.Numbers.{high_half, low_half}
use Rattle.body.specs.declared.tag.Form.{Form}
use Rattle.body.specs.declared.tag.Form.TheVariants.{Snapshot, Delta}
use Rattle.body.specs.Origin.{family, prefix_length, maximum_length, good_prefix, good_origin}
use Rattle.body.specs.Tag.{tag_of, kind_of}
use Rattle.body.specs.Halves.{clean_halves}
use Rattle.body.proofs.Masks.{halves, halves_high}
use Rattle.field.specs.declared.head.Field.TheVariants.{Whole}
use Rattle.field.specs.declared.words.Words.{Words}
use Rattle.field.specs.Head.{field_at}
use Rattle.field.specs.Words.{words_at}
use Rattle.field.specs.If.{If}
use Rattle.field.proofs.Fields.{field_whole}
use Rattle.verdict.specs.declared.origins.Heads.{Heads}
use Rattle.verdict.specs.Origins.{heads_of, has_head, has_start, family_in, prefix_in, maximum_in, high_in, low_in, good_lengths, good_words, below_words, GoodField, NextWords, three_at, Neighbours}

-- a no decides nothing
pub unsure : (P : Type 0) → If false P
unsure P = record { holds = λ e. absurd (false≢true e) }

-- ---- the functions of words

module _ (form : Form) where
  pub heads_held : form ≡ Snapshot → ◌≡◌ {A = Heads} (record { one = 0x010017; other = 0x010017 }) (heads_of form)
  heads_held e = rw e

  pub heads_changed : form ≡ Delta → ◌≡◌ {A = Heads} (record { one = 0x110017; other = 0x120017 }) (heads_of form)
  heads_changed e = rw e

  module _ (first family : ℕ) (heads : Heads) (e : heads ≡ heads_of form) where
    pub start_one : first / 4_294_967_296 ≡ heads.one * 256 + family → true ≡ has_start (heads_of form) family first
    unfolding has_start
    start_one d = rw (← e, eq-eqb (first / 4_294_967_296) (heads.one * 256 + family) d)

    pub start_other : (first / 4_294_967_296 ≡ heads.one * 256 + family → ⊥) → eqb (first / 4_294_967_296) (heads.other * 256 + family) ≡ has_start (heads_of form) family first
    unfolding has_start
    start_other n = rw (← e, ne_eqb (first / 4_294_967_296) (heads.one * 256 + family) n)

  -- the heads are numbers of three bytes
  module _ (heads : Heads) (e : heads ≡ heads_of form) where
    low : (heads.one < 16_777_216) × (heads.other < 16_777_216)
    low = rw e (go form)
      where
        go : (f : Form) → ((heads_of f).one < 16_777_216) × ((heads_of f).other < 16_777_216)
        go Snapshot = (omega arith, omega arith)
        go Delta = (omega arith, omega arith)

    pub start_one_room : heads.one * 256 < 2 ^ 64
    start_one_room = omega (arith, low.0)

    pub start_other_room : heads.other * 256 < 2 ^ 64
    start_other_room = omega (arith, low.1)

    pub start_one_fits : (family : ℕ) → family < 256 → heads.one * 256 + family < 2 ^ 64
    start_one_fits family h = omega (arith, low.0)

    pub start_other_fits : (family : ℕ) → family < 256 → heads.other * 256 + family < 2 ^ 64
    start_other_fits family h = omega (arith, low.1)

pub ruleset heading = (heads_held, heads_changed, start_one, start_other, start_one_room, start_other_room, start_one_fits, start_other_fits)

-- head and family by one number
start_says : (heads : Heads) (family first : ℕ) → family < 256 → has_start heads family first ≡ true →
    (has_head heads first ≡ true) × (first / 4_294_967_296 % 256 ≡ family)
unfolding has_start has_head
start_says heads family first k e = go (eqb (first / 4_294_967_296) (heads.one * 256 + family)) refl e
  where
    by : (h : ℕ) → first / 4_294_967_296 ≡ h * 256 + family → (first / 1_099_511_627_776 ≡ h) × (first / 4_294_967_296 % 256 ≡ family)
    by h d = (omega arith, omega arith)

    go : (t : Bool) → eqb (first / 4_294_967_296) (heads.one * 256 + family) ≡ t → (t || eqb (first / 4_294_967_296) (heads.other * 256 + family)) ≡ true →
        ((eqb (first / 1_099_511_627_776) heads.one || eqb (first / 1_099_511_627_776) heads.other) ≡ true) × (first / 4_294_967_296 % 256 ≡ family)
    go true d q =
        let z = by heads.one (eqb-true (first / 4_294_967_296) (heads.one * 256 + family) d) in
        (rw (eq-eqb (first / 1_099_511_627_776) heads.one z.0), z.1)
    go false d q =
        let z = by heads.other (eqb-true (first / 4_294_967_296) (heads.other * 256 + family) q) in
        (either (eqb (first / 1_099_511_627_776) heads.one) (eq-eqb (first / 1_099_511_627_776) heads.other z.0), z.1)
      where
        either : (t : Bool) {u : Bool} → u ≡ true → (t || u) ≡ true
        either true q = refl
        either false q = q

-- half a word above half of another
pub half_fits : (x y : ℕ) → Fits w64 y → Fits w64 (x % 4_294_967_296 * 4_294_967_296 + y / 4_294_967_296)
half_fits x y f =
    let b : y / 4_294_967_296 < 4_294_967_296 = (div-lt_iff_lt-mul {k = 4_294_967_296} {x = y} {y = 4_294_967_296} (omega arith)).1 f.fits in
    record { fits = sum (x % 4_294_967_296) (y / 4_294_967_296) (omega arith) b }
  where
    sum : (u v : ℕ) → u < 4_294_967_296 → v < 4_294_967_296 → u * 4_294_967_296 + v < 18_446_744_073_709_551_616
    sum u v h k = omega arith

module _ (w : Words) where
  pub four_rest : w.second ≡ 0 → w.third / 16_777_216 ≤ maximum_in w → maximum_in w ≤ 32
      → If (eqb ((w.first % 4_294_967_296 * 4_294_967_296 * 2 ^ (w.third / 16_777_216)) % 2 ^ 64) 0) (good_lengths 32 w ≡ true)
  unfolding good_lengths
  four_rest e h k =
      let p : prefix_in w ≡ w.third / 16_777_216 = omega arith in
      let l : low_in w ≡ 0 = omega arith in
      let g : high_in w ≡ w.first % 4_294_967_296 * 4_294_967_296 = omega arith in
      record {
        holds = λ t. rw (le-leb (prefix_in w) (maximum_in w) (omega arith), le-leb (maximum_in w) 32 k)
            (sym (halves_high (prefix_in w) (high_in w) (low_in w) (omega arith) l) ∙ rw (g, p) t);
      }

  pub six_low : maximum_in w < prefix_in w → false ≡ good_lengths 128 w
  unfolding good_lengths
  six_low h = rw (lt-leb (prefix_in w) (maximum_in w) h)

  module _ (h : prefix_in w ≤ maximum_in w) where
    pub six_bound : 128 < maximum_in w → false ≡ good_lengths 128 w
    unfolding good_lengths
    six_bound k = rw (le-leb (prefix_in w) (maximum_in w) h, lt-leb (maximum_in w) 128 k)

    pub six_rest : maximum_in w ≤ 128 → (r : Bool) → r ≡ clean_halves (prefix_in w) (high_in w) (low_in w) → r ≡ good_lengths 128 w
    unfolding good_lengths
    six_rest k r q = rw (le-leb (prefix_in w) (maximum_in w) h, le-leb (maximum_in w) 128 k, q)

  module _ (form : Form) where
    pub field_four : (b r : Bool) → b ≡ has_start (heads_of form) 4 w.first → b ≡ true → If r (good_lengths 32 w ≡ true) → If r (GoodField form w)
    unfolding good_words
    field_four b r e t i =
        let z = start_says (heads_of form) 4 w.first (omega arith) (sym e ∙ t) in
        record { holds = λ q. record { head = z.0; good = rw z.1 (i.holds q) } }

    pub field_six : (b r : Bool) → b ≡ has_start (heads_of form) 6 w.first → not b ≡ false → r ≡ good_lengths 128 w → If r (GoodField form w)
    unfolding good_words
    field_six b r e t i =
        let z = start_says (heads_of form) 6 w.first (omega arith) (sym e ∙ not-false b t) in
        record { holds = λ q. record { head = z.0; good = rw z.1 (sym i ∙ q) } }

pub ruleset judging_words = (unsure, half_fits, four_rest, six_low, six_bound, six_rest, field_four, field_six)

module _ (p q : Words) where
  abbrev t : ℕ
  t = p.first % 1_099_511_627_776

  abbrev u : ℕ
  u = q.first % 1_099_511_627_776

  below_one : t < u → true ≡ below_words p q
  unfolding below_words
  below_one h = rw (number_less t u h)

  above_one : u < t → false ≡ below_words p q
  unfolding below_words
  above_one h = rw (number_greater t u h)

  module _ (h : u ≤ t) (k : t ≤ u) where
    one : number t u ≡ Equal
    one = number_equal t u (omega arith)

    below_two : p.second < q.second → true ≡ below_words p q
    unfolding below_words
    below_two l = rw (one, number_less p.second q.second l)

    above_two : q.second < p.second → false ≡ below_words p q
    unfolding below_words
    above_two l = rw (one, number_greater p.second q.second l)

    module _ (l : q.second ≤ p.second) (m : p.second ≤ q.second) where
      two : number p.second q.second ≡ Equal
      two = number_equal p.second q.second (omega arith)

      below_three : p.third < q.third → true ≡ below_words p q
      unfolding below_words
      below_three n = rw (one, two, number_less p.third q.third n)

      above_three : q.third < p.third → false ≡ below_words p q
      unfolding below_words
      above_three n = rw (one, two, number_greater p.third q.third n)

      below_last : q.third ≤ p.third → p.third ≤ q.third → ltb p.last q.last ≡ below_words p q
      unfolding below_words
      below_last n o =
          rw (one, two, number_equal p.third q.third (omega arith)) (go (ltb p.last q.last) (eqb p.last q.last))
        where
          go : (s t : Bool) → s ≡ is_less (cond s Less (cond t Equal Greater))
          go true t = refl
          go false true = refl
          go false false = refl

-- the same for a field and the one before it, by their first three words
module _ (s : List ℕ) (at : ℕ) (before field : Words) (i : Neighbours s at before field) where
  abbrev p : Words
  p = words_at s (at - 26)

  abbrev q : Words
  q = words_at s at

  pub above_first : before.first % 1_099_511_627_776 < field.first % 1_099_511_627_776 → true ≡ below_words p q
  above_first h = below_one p q (rw (i.behind, i.here) at h)

  pub not_first : field.first % 1_099_511_627_776 < before.first % 1_099_511_627_776 → false ≡ below_words p q
  not_first h = above_one p q (rw (i.behind, i.here) at h)

  module _ (h : field.first % 1_099_511_627_776 ≤ before.first % 1_099_511_627_776) (k : before.first % 1_099_511_627_776 ≤ field.first % 1_099_511_627_776) where
    h₁ : q.first % 1_099_511_627_776 ≤ p.first % 1_099_511_627_776
    h₁ = rw (i.behind, i.here) at h

    k₁ : p.first % 1_099_511_627_776 ≤ q.first % 1_099_511_627_776
    k₁ = rw (i.behind, i.here) at k

    pub above_second : before.second < field.second → true ≡ below_words p q
    above_second l = below_two p q h₁ k₁ (rw (i.behind, i.here) at l)

    pub not_second : field.second < before.second → false ≡ below_words p q
    not_second l = above_two p q h₁ k₁ (rw (i.behind, i.here) at l)

    module _ (l : field.second ≤ before.second) (m : before.second ≤ field.second) where
      l₁ : q.second ≤ p.second
      l₁ = rw (i.behind, i.here) at l

      m₁ : p.second ≤ q.second
      m₁ = rw (i.behind, i.here) at m

      pub above_third : before.third < field.third → true ≡ below_words p q
      above_third n = below_three p q h₁ k₁ l₁ m₁ (rw (i.behind, i.here) at n)

      pub not_third : field.third < before.third → false ≡ below_words p q
      not_third n = above_three p q h₁ k₁ l₁ m₁ (rw (i.behind, i.here) at n)

      pub above_last : field.third ≤ before.third → before.third ≤ field.third → (x y : ℕ) → x ≡ two_at s (at - 2) → y ≡ two_at s (at + 24) → ltb x y ≡ below_words p q
      above_last n o x y d e =
          let z : at - 2 ≡ at - 26 + 24 = omega (arith, i.low) in
          rw (d, e, z) (below_last p q h₁ k₁ l₁ m₁ (rw (i.behind, i.here) at n) (rw (i.behind, i.here) at o))

  pub last_low : 2 ≤ at
  last_low = omega (arith, i.low)

  pub last_room : at - 2 + 2 ≤ length s
  last_room = omega (arith, i.low, i.room)

  pub last_here : at + 24 + 2 ≤ length s
  last_here = omega (arith, i.room)

  pub next_below : (form : Form) (g : Bool) → If g (GoodField form field) → not g ≡ false → (r : Bool) → r ≡ below_words p q → If r (NextWords form p q)
  unfolding good_words good_lengths
  next_below form g j u r e =
      let z : GoodField form (three_at s at) = rw i.here at (j.holds (not-false g u)) in
      record { holds = λ y. record { head = z.head; good = z.good; above = sym e ∙ y } }

pub ruleset lowering = (above_first, not_first, above_second, not_second, above_third, not_third, above_last, last_low, last_room, last_here)

pub ruleset nexting = (unsure, next_below)

-- ---- what they say of the bytes

-- the field at `at`
module _ (s : List ℕ) (o : Octets s) (at : ℕ) (h : at + 26 ≤ length s) where
  abbrev w : Words
  w = words_at s at

  abbrev body : List ℕ
  body = part s (at + 3) (at + 26)

  body_long : length body ≡ 23
  body_long = simp (length-take, length-drop) (omega arith)

  -- a byte of the body
  body_at : (i : ℕ) → i < 23 → get_or body i 0 ≡ get_or s (at + 3 + i) 0
  body_at i k = get_or-take (at + 26 - (at + 3)) (drop (at + 3) s) i 0 (omega arith) ∙ get_or-drop (at + 3) s i 0

  body_bytes : Octets body
  body_bytes = part_bytes s o (at + 3) (at + 26)

  -- a number in it
  body_digits : (n i j : ℕ) → i + n ≤ 23 → j ≡ at + 3 + i → digits n s j ≡ digits n body i
  body_digits n i j k e = rw e (sym (part_digits s (at + 3) (at + 26) i n (omega arith)))

  body_word : (i j : ℕ) → i + 8 ≤ 23 → j ≡ at + 3 + i → word_at s j ≡ word_at body i
  body_word i j k e = word_digits s j ∙ body_digits 8 i j k e ∙ sym (word_digits body i)

  tag_is : w.first / 72_057_594_037_927_936 ≡ get_or s at 0
  tag_is =
      let e = high_half s o at in
      let d : w.first / 72_057_594_037_927_936 ≡ w.first / 4_294_967_296 / 16_777_216 = omega arith in
      d ∙ rw e (omega (arith, (o (at + 1)).fits, (o (at + 2)).fits, (o (at + 3)).fits))

  size_is : w.first / 1_099_511_627_776 % 65_536 ≡ two_at s (at + 1)
  size_is =
      let e = high_half s o at in
      let d : w.first / 1_099_511_627_776 ≡ w.first / 4_294_967_296 / 256 = omega arith in
      let z : at + 1 + 1 ≡ at + 2 = omega arith in
      rw (d, e, z) (omega (arith, (o at).fits, (o (at + 1)).fits, (o (at + 2)).fits, (o (at + 3)).fits))

  family_is : family_in w ≡ family body
  family_is =
      let z : at + 3 + 0 ≡ at + 3 = omega arith in
      rw (high_half s o at, body_at 0 (omega arith), z) (omega (arith, (o (at + 3)).fits))

  -- of the second half of the third word the first byte and the second
  lengths : (prefix_in w ≡ get_or s (at + 20) 0) × (maximum_in w ≡ get_or s (at + 21) 0)
  lengths =
      let z0 : at + 16 + 4 ≡ at + 20 = omega arith in
      let z1 : at + 20 + 1 ≡ at + 21 = omega arith in
      let z2 : at + 20 + 2 ≡ at + 22 = omega arith in
      let z3 : at + 20 + 3 ≡ at + 23 = omega arith in
      let e = rw (z0, z1, z2, z3) at (low_half s o (at + 16)) in
      plain w.third (get_or s (at + 20) 0) (get_or s (at + 21) 0) (get_or s (at + 22) 0) (get_or s (at + 23) 0) e (o (at + 21)).fits (o (at + 22)).fits (o (at + 23)).fits (o (at + 20)).fits
    where
      plain : (x a b c d : ℕ) → x % 4_294_967_296 ≡ ((a * 256 + b) * 256 + c) * 256 + d → b < 256 → c < 256 → d < 256 → a < 256
          → (x / 16_777_216 % 256 ≡ a) × (x / 65_536 % 256 ≡ b)
      plain x a b c d e k l m n = (omega arith, omega arith)

  prefix_is : prefix_in w ≡ prefix_length body
  prefix_is = let z : at + 3 + 17 ≡ at + 20 = omega arith in rw (body_at 17 (omega arith), z) lengths.0

  maximum_is : maximum_in w ≡ maximum_length body
  maximum_is = let z : at + 3 + 18 ≡ at + 21 = omega arith in rw (body_at 18 (omega arith), z) lengths.1

  -- the second half of a word and the first of the next
  across : (i : ℕ) → word_at s i % 4_294_967_296 * 4_294_967_296 + word_at s (i + 8) / 4_294_967_296 ≡ word_at s (i + 4)
  across i = rw (low_half s o i, high_half s o (i + 8)) (joined i)
    where
      joined : (i : ℕ) → four_at s (i + 4) * 4_294_967_296 + four_at s (i + 8) ≡ word_at s (i + 4)
      joined i = let z : i + 4 + 4 ≡ i + 8 = omega arith in word_read s (i + 4) (four_at s (i + 4)) (four_at s (i + 8)) refl (rw z)

  high_is : high_in w ≡ word_at body 1
  high_is = across at ∙ body_word 1 (at + 4) (omega arith) (omega arith)

  low_is : low_in w ≡ word_at body 9
  low_is =
      let z : at + 8 + 8 ≡ at + 16 = omega arith in
      (rw z at (across (at + 8))) ∙ body_word 9 (at + 8 + 4) (omega arith) (omega arith)

  lengths_good : (bound : ℕ) → good_lengths bound w ≡ good_prefix bound body
  unfolding good_lengths good_prefix
  lengths_good bound =
      rw (prefix_is, maximum_is, high_is, low_is, halves body body_bytes 1 (rw body_long (omega arith)) (prefix_length body))

  -- the body is good where its words are
  words_good : good_words w ≡ good_origin body
  unfolding good_words good_origin
  words_good = rw (family_is, lengths_good 32, lengths_good 128, eq-eqb (length body) 23 body_long)

  -- the five bytes behind the head
  five_digits : word_at s at % 1_099_511_627_776 ≡ digits 5 s (at + 3)
  unfolding digits
  five_digits =
      let e = high_half s o at in
      let f = low_half s o at in
      let d : word_at s at % 1_099_511_627_776 ≡ word_at s at / 4_294_967_296 % 256 * 4_294_967_296 + word_at s at % 4_294_967_296 = omega arith in
      let z0 : at + 3 + 0 ≡ at + 3 = omega arith in
      let z1 : at + 3 + 1 ≡ at + 4 = omega arith in
      let z2 : at + 3 + 2 ≡ at + 4 + 1 = omega arith in
      let z3 : at + 3 + 3 ≡ at + 4 + 2 = omega arith in
      let z4 : at + 3 + 4 ≡ at + 4 + 3 = omega arith in
      d ∙ rw (e, f, z0, z1, z2, z3, z4) (omega (arith, (o (at + 3)).fits))

  -- it has the head of an origin
  pub record OriginHead (form : Form) : Type 0 where
    pub kind : kind_of form (get_or s at 0) ≡ 1
    pub reads : Whole (get_or s at 0) (at + 3) (at + 26) ≡ field_at s at

  -- the words of the body are its numbers of 5, 8, 8 and 2 bytes
  pub record Numbers : Type 0 where
    pub one : w.first % 1_099_511_627_776 ≡ digits 5 body 0
    pub two : w.second ≡ digits 8 body 5
    pub three : w.third ≡ digits 8 body 13
    pub four : w.last ≡ digits 2 body 21

  numbers : Numbers
  numbers =
      record {
        one = five_digits ∙ body_digits 5 0 (at + 3) (omega arith) (omega arith);
        two = word_digits s (at + 8) ∙ body_digits 8 5 (at + 8) (omega arith) (omega arith);
        three = word_digits s (at + 16) ∙ body_digits 8 13 (at + 16) (omega arith) (omega arith);
        four = two_digits s (at + 24) ∙ body_digits 2 21 (at + 24) (omega arith) (omega arith);
      }

  -- its tag and length, by its head
  head_is_lem : (form : Form) (tag : ℕ) → kind_of form tag ≡ 1 → w.first / 1_099_511_627_776 ≡ tag * 65_536 + 23 → OriginHead form
  head_is_lem form tag k e =
      let d : w.first / 72_057_594_037_927_936 ≡ tag = omega arith in
      let n : w.first / 1_099_511_627_776 % 65_536 ≡ 23 = omega arith in
      let z : at + 3 + 23 ≡ at + 26 = omega arith in
      record {
        kind = rw (sym d ∙ tag_is) at k;
        reads = rw z at (field_whole s at 23 (omega arith) (omega arith) (sym n ∙ size_is) (omega arith));
      }

  head_cases : (form : Form) (x y : Bool) → eqb (w.first / 1_099_511_627_776) (heads_of form).one ≡ x → eqb (w.first / 1_099_511_627_776) (heads_of form).other ≡ y
      → x || y ≡ true → OriginHead form
  unfolding kind_of tag_of
  head_cases Snapshot true y d e f = head_is_lem Snapshot 0x01 refl (eqb-true (w.first / 1_099_511_627_776) 0x010017 d)
  head_cases Snapshot false true d e f = head_is_lem Snapshot 0x01 refl (eqb-true (w.first / 1_099_511_627_776) 0x010017 e)
  head_cases Delta true y d e f = head_is_lem Delta 0x11 refl (eqb-true (w.first / 1_099_511_627_776) 0x110017 d)
  head_cases Delta false true d e f = head_is_lem Delta 0x12 refl (eqb-true (w.first / 1_099_511_627_776) 0x120017 e)
  head_cases form false false d e f = absurd (false≢true f)

  -- what the words of a good origin's field say of it
  module _ (form : Form) (before : Words) (n : NextWords form before w) where
    pub next_head : OriginHead form
    unfolding has_head
    next_head = head_cases form (eqb (w.first / 1_099_511_627_776) (heads_of form).one) (eqb (w.first / 1_099_511_627_776) (heads_of form).other) refl refl n.head

    pub next_good : good_origin body ≡ true
    next_good = sym words_good ∙ n.good

-- a first comparison, and what it leaves to others
first_less : (x r q : Ordering) → (is_less r ≡ true → q ≡ Less) → is_less (or_else x r) ≡ true → or_else x q ≡ Less
first_less Less r q f e = refl
first_less Equal r q f e = f e
first_less Greater r q f e = absurd (false≢true e)

-- the bodies at i and at j stand in order where their words do
module _ (s : List ℕ) (o : Octets s) (i j : ℕ) (h : i + 26 ≤ length s) (k : j + 26 ≤ length s) where
  abbrev a : List ℕ
  a = part s (i + 3) (i + 26)

  abbrev b : List ℕ
  b = part s (j + 3) (j + 26)

  abbrev compared : ℕ → ℕ → Ordering
  compared n m = number (digits n a m) (digits n b m)

  decide : (n m : ℕ) → m + n ≤ 23 → bytes (drop m a) (drop m b) ≡ or_else (compared n m) (bytes (drop (m + n) a) (drop (m + n) b))
  decide n m l =
      let x = body_long s o i h in
      let y = body_long s o j k in
      digits_decide a b (body_bytes s o i h) (body_bytes s o j k) m n (omega arith) (omega arith)

  pub words_less : below_words (words_at s i) (words_at s j) ≡ true → bytes a b ≡ Less
  unfolding below_words
  words_less e =
      let x = numbers s o i h in
      let y = numbers s o j k in
      let f : is_less (or_else (compared 5 0) (or_else (compared 8 5) (or_else (compared 8 13) (compared 2 21)))) ≡ true
      = rw (x.one, y.one, x.two, y.two, x.three, y.three, x.four, y.four) at e in
      decide 5 0 (omega arith) ∙ first_less (compared 5 0) (or_else (compared 8 5) (or_else (compared 8 13) (compared 2 21))) (bytes (drop 5 a) (drop 5 b)) second f
    where
      last : is_less (compared 2 21) ≡ true → bytes (drop 21 a) (drop 21 b) ≡ Less
      last e = decide 2 21 (omega arith) ∙ only (compared 2 21) e
        where
          only : (x : Ordering) → is_less x ≡ true → or_else x (bytes (drop 23 a) (drop 23 b)) ≡ Less
          only Less e = refl
          only Equal e = absurd (false≢true e)
          only Greater e = absurd (false≢true e)

      third : is_less (or_else (compared 8 13) (compared 2 21)) ≡ true → bytes (drop 13 a) (drop 13 b) ≡ Less
      third e = decide 8 13 (omega arith) ∙ first_less (compared 8 13) (compared 2 21) (bytes (drop 21 a) (drop 21 b)) last e

      second : is_less (or_else (compared 8 5) (or_else (compared 8 13) (compared 2 21))) ≡ true → bytes (drop 5 a) (drop 5 b) ≡ Less
      second e = decide 8 5 (omega arith) ∙ first_less (compared 8 5) (or_else (compared 8 13) (compared 2 21)) (bytes (drop 13 a) (drop 13 b)) third e
