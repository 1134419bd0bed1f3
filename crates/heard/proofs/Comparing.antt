-- Laws of the comparisons of two messages.
use Prim.Native.Nat.{ℕ, zero, suc, ◌+◌, ◌*◌, ◌/◌, ◌%◌, ◌<◌, ◌≤◌}
use mathlib.Core.Path.{◌≡◌, refl, sym, ap, ◌∙◌}
use mathlib.Core.List.{[], ◌∷◌, ◌++◌}
use mathlib.Core.Bool.{Bool, true, false, cond}
use native.Mathlib.Omega.{arith}
use native.Mathlib.Decide.{ℕ_discrete, dec_le}
use lib.Dec.{eqb, ltb}
use lib.ListN.{length, get_or, drop, replicate, drop_of_length-le}
use lib.Seq.{get_or-drop, drop-drop}
use Rattle.std.specs.declared.cmp.Ordering.{Ordering}
use Rattle.std.specs.declared.cmp.Ordering.TheVariants.{Less, Equal, Greater}
use Rattle.std.specs.Ordering.{MatchOrdering, nat_cmp, is_eq}
use Rattle.std.proofs.lemmas.Cmp.{ranked}
use Rattle.order.specs.Comparison.{or_else, number, bytes}
use Rattle.order.proofs.Comparison.{number_less, number_equal, number_greater}
use Rattle.change.specs.Application.{is_equal}
use Rattle.number.specs.Number.{four, four_at, word_at}
use Rattle.number.specs.Bytes.{part}
use Rattle.number.proofs.Eights.{Octets, digits, word_digits, part_bytes, digits_decide}
use Rattle.number.proofs.Numbers.{four_lt, low_half, high_half}
use Rattle.payload.specs.Content.{Bytes}
use Rattle.item.specs.Front.{packs, front_key}
use Rattle.item.proofs.Fronts.{front_less, front_greater}
use Rattle.heard.specs.Place.{type_at, size_at, key_at, Sized, v4, v6, key, Payload, precedes}
use Rattle.heard.specs.Compare.{Of, Fronted, FrontOf, Alike}
use Rattle.heard.proofs.Keys.{byte_at, word_from, four_from, four_key, four_key_lem, six_key, six_key_lem, router_key_lem}
use Rattle.heard.proofs.Places.{least, long, third, size_least}
use Rattle.heard.proofs.Fronts.{front_four, front_six, front_key_lem}

-- equal numbers
data Compared (p q : ℕ) : Type 0 where
  lt : p < q → Compared p q
  eq : p ≡ q → Compared p q
  gt : q < p → Compared p q

ℕ_compare : (p q : ℕ) → Compared p q
ℕ_compare p q = go (ℕ_discrete p q) (dec_le p q)
  where
    go : Dec (p ≡ q) → Dec (p ≤ q) → Compared p q
    go (yes e) d = eq e
    go (no n) (yes h) = lt (omega arith)
    go (no n) (no h) = gt (omega arith)

-- std's order of numbers
number_is : (p q : ℕ) → nat_cmp p q ≡ number p q
number_is p q = go (nat_cmp p q) (ranked p q (nat_cmp p q) refl)
  where
    go : (r : Ordering) → MatchOrdering r (p < q) (p ≡ q) (q < p) → r ≡ number p q
    go Less h = sym (number_less p q h)
    go Equal h = sym (number_equal p q h)
    go Greater h = sym (number_greater p q h)

equal_is : (r : Ordering) → is_eq r ≡ is_equal r
equal_is Less = refl
equal_is Equal = refl
equal_is Greater = refl

-- ---- four_last, six_last

lengths_in : (w a b c d : ℕ) → w / 4_294_967_296 ≡ four a b c d → b < 256 → c < 256 → d < 256 → w / 1_099_511_627_776 % 65_536 ≡ b * 256 + c
lengths_in w a b c d e h k l =
    let f : w / 1_099_511_627_776 ≡ w / 4_294_967_296 / 256 = omega arith in
    rw (f, e) (omega arith)

module _ (s : Bytes) (at : ℕ) (o : Octets s) where
  pub lengths_at : word_at s (at + 8) / 1_099_511_627_776 % 65_536 ≡ byte_at s at 9 * 256 + byte_at s at 10
  lengths_at = lengths_in (word_at s (at + 8)) (byte_at s at 8) (byte_at s at 9) (byte_at s at 10) (byte_at s at 11) (high_half s o (at + 8) ∙ four_from s at 8) (o (at + 9)).fits (o (at + 10)).fits (o (at + 11)).fits

  module _ (f : Of s 4 at) where
    pub four_second : at + 8 + 8 ≤ length s
    four_second = omega (arith, least s at f.payload)

    pub four_third : at + 12 + 8 ≤ length s
    four_third = omega (arith, least s at f.payload)

    pub four_last_is : (u w : ℕ) → u ≡ word_at s (at + 8) → w ≡ word_at s (at + 12)
        → u / 1_099_511_627_776 % 65_536 * 4_294_967_296 + w % 4_294_967_296 ≡ word_at (key_at s at) 16
    unfolding word_at
    four_last_is u w d e =
        let z : at + 12 + 4 ≡ at + 16 = omega arith in
        let g : word_at s (at + 12) % 4_294_967_296 ≡ four (byte_at s at 16) (byte_at s at 17) (byte_at s at 18) (byte_at s at 19) = low_half s o (at + 12) ∙ rw z (four_from s at 16) in
        let k : word_at (four_key (byte_at s at)) 16 ≡ (byte_at s at 9 * 256 + byte_at s at 10) * 4_294_967_296 + four (byte_at s at 16) (byte_at s at 17) (byte_at s at 18) (byte_at s at 19) = omega arith in
        rw (d, e, four_key_lem s at f.type (least s at f.payload), k, lengths_at, g)

  pub six_long : Of s 6 at → at + 32 ≤ length s
  six_long f = long s at f.payload (λ h. let z : ◌≡◌ {A = ℕ} 4 6 = sym h ∙ f.type in omega arith)

  module _ (f : Of s 6 at) where
    pub six_second : at + 8 + 8 ≤ length s
    six_second = omega (arith, six_long f)

    pub six_third : at + 24 + 8 ≤ length s
    six_third = omega (arith, six_long f)

    six_middle : word_at s (at + 18) ≡ word_at (key_at s at) 8
    unfolding word_at
    six_middle = rw (six_key_lem s at f.type (six_long f)) (word_from s at 18)

    pub six_last_is : (u w : ℕ) → u ≡ word_at s (at + 8) → w ≡ word_at s (at + 24)
        → (w / 4_294_967_296 % 65_536 * 65_536 + u / 1_099_511_627_776 % 65_536) * 4_294_967_296 + w % 4_294_967_296 ≡ word_at (key_at s at) 16
    unfolding word_at
    six_last_is u w d e =
        let z : at + 24 + 4 ≡ at + 28 = omega arith in
        let g : word_at s (at + 24) % 4_294_967_296 ≡ four (byte_at s at 28) (byte_at s at 29) (byte_at s at 30) (byte_at s at 31) = low_half s o (at + 24) ∙ rw z (four_from s at 28) in
        let h : word_at s (at + 24) / 4_294_967_296 % 65_536 ≡ byte_at s at 26 * 256 + byte_at s at 27 = rw (high_half s o (at + 24), four_from s at 24) (omega (arith, (o (at + 26)).fits, (o (at + 27)).fits)) in
        let k : word_at (six_key (byte_at s at)) 16 ≡ ((byte_at s at 26 * 256 + byte_at s at 27) * 65_536 + (byte_at s at 9 * 256 + byte_at s at 10)) * 4_294_967_296 + four (byte_at s at 28) (byte_at s at 29) (byte_at s at 30) (byte_at s at 31) = omega arith in
        rw (d, e, six_key_lem s at f.type (six_long f), k, lengths_at, g, h)

pub ruleset lasts = (four_second, four_third, four_last_is, six_second, six_third, six_last_is)

-- ---- keys are bytes

pub octets_cons : (x : ℕ) (l : Bytes) → x < 256 → Octets l → Octets (x ∷ l)
octets_cons x l h o zero = record { fits = h }
octets_cons x l h o (suc i) = o i

octets_append : (a l : Bytes) → Octets a → Octets l → Octets (a ++ l)
octets_append [] l p o i = o i
octets_append (x ∷ a) l p o zero = p 0
octets_append (x ∷ a) l p o (suc i) = octets_append a l (λ j. p (suc j)) o i

octets_zeros : (n : ℕ) → Octets (replicate n 0)
octets_zeros zero i = record { fits = omega arith }
octets_zeros (suc n) zero = record { fits = omega arith }
octets_zeros (suc n) (suc i) = octets_zeros n i

pub key_octets : (s : Bytes) (at : ℕ) → Octets s → Octets (key_at s at)
unfolding key_at
key_octets s at o = go (eqb (type_at s at) 4) (eqb (type_at s at) 6)
  where
    lengths : (n : ℕ) → Octets (get_or s (at + 9) 0 ∷ get_or s (at + 10) 0 ∷ part s (at + n) (at + (n + 4)))
    lengths n =
        octets_cons (get_or s (at + 9) 0) (get_or s (at + 10) 0 ∷ part s (at + n) (at + (n + 4))) (o (at + 9)).fits
        (octets_cons (get_or s (at + 10) 0) (part s (at + n) (at + (n + 4))) (o (at + 10)).fits (part_bytes s o (at + n) (at + (n + 4))))

    four : Bytes
    four = get_or s (at + 9) 0 ∷ get_or s (at + 10) 0 ∷ part s (at + 16) (at + 20)

    six : Bytes
    six = part s (at + 12) (at + 28) ++ (get_or s (at + 9) 0 ∷ get_or s (at + 10) 0 ∷ part s (at + 28) (at + 32))

    prefix : (n : ℕ) → n < 256 → (l : Bytes) → Octets l → Octets (1 ∷ n ∷ l)
    prefix n h l p = octets_cons 1 (n ∷ l) (omega arith) (octets_cons n l h p)

    go : (p q : Bool) → Octets (cond p (1 ∷ 4 ∷ (part s (at + 12) (at + 16) ++ (replicate 12 0 ++ four))) (cond q (1 ∷ 6 ∷ six) (2 ∷ part s (at + 8) (at + size_at s at))))
    go true q =
        prefix 4 (omega arith) (part s (at + 12) (at + 16) ++ (replicate 12 0 ++ four))
        (octets_append (part s (at + 12) (at + 16)) (replicate 12 0 ++ four) (part_bytes s o (at + 12) (at + 16)) (octets_append (replicate 12 0) four (octets_zeros 12) (lengths 16)))
    go false true =
        prefix 6 (omega arith) six
        (octets_append (part s (at + 12) (at + 28)) (get_or s (at + 9) 0 ∷ get_or s (at + 10) 0 ∷ part s (at + 28) (at + 32)) (part_bytes s o (at + 12) (at + 28)) (lengths 28))
    go false false = octets_cons 2 (part s (at + 8) (at + size_at s at)) (omega arith) (part_bytes s o (at + 8) (at + size_at s at))

-- ---- the front is the number of the first eight bytes

packs_digits : (k : Bytes) (n m : ℕ) → packs (digits n k 0) m (drop n k) ≡ digits (n + m) k 0
unfolding packs digits
packs_digits k n zero = let z : n + 0 ≡ n = omega arith in rw z
packs_digits k n (suc m) =
    let z : n + 0 ≡ 0 + n = omega arith in
    let y : n + 1 ≡ suc n = omega arith in
    let x : n + suc m ≡ suc n + m = omega arith in
    let e : get_or (drop n k) 0 0 ≡ get_or k (0 + n) 0 = get_or-drop n k 0 0 ∙ ap (λ (i : ℕ). get_or k i 0) z in
    rw (x, e, drop-drop 1 n k, y) (packs_digits k (suc n) m)

front_digits : (k : Bytes) → front_key k ≡ digits 8 k 0
unfolding digits
front_digits k = packs_digits k 0 8

-- ---- what the front leaves

module _ (k l : Bytes) (o : Octets k) (p : Octets l) where
  -- 24 bytes as three numbers
  pub three : length k ≡ 24 → length l ≡ 24 → front_key k ≡ front_key l
      → bytes k l ≡ or_else (number (word_at k 8) (word_at l 8)) (number (word_at k 16) (word_at l 16))
  three m n e =
      let d : digits 8 k 0 ≡ digits 8 l 0 = sym (front_digits k) ∙ e ∙ front_digits l in
      digits_decide k l o p 0 8 (omega arith) (omega arith)
      ∙ rw (number_equal (digits 8 k 0) (digits 8 l 0) d, word_digits k 8, word_digits l 8, word_digits k 16, word_digits l 16)
      (digits_decide k l o p 8 8 (omega arith) (omega arith)
      ∙ ap (or_else (number (digits 8 k 8) (digits 8 l 8))) (digits_decide k l o p 16 8 (omega arith) (omega arith) ∙ last (number (digits 8 k 16) (digits 8 l 16))))
    where
      none : (s : Bytes) → length s ≡ 24 → drop 24 s ≡ []
      none s h = drop_of_length-le s {i = 24} (omega arith)

      last : (x : Ordering) → or_else x (bytes (drop 24 k) (drop 24 l)) ≡ x
      last Less = refl
      last Equal = rw (none k m, none l n)
      last Greater = refl

-- ---- two messages whose fronts are the same

module _ (s : Bytes) (o : Octets s) (x y : ℕ) where
  -- prefixes of one family: the words in the middle, then the last ones
  prefixes : length (key_at s x) ≡ 24 → length (key_at s y) ≡ 24 → front_key (key_at s x) ≡ front_key (key_at s y)
      → bytes (key_at s x) (key_at s y) ≡ or_else (number (word_at (key_at s x) 8) (word_at (key_at s y) 8)) (number (word_at (key_at s x) 16) (word_at (key_at s y) 16))
  prefixes m n e = three (key_at s x) (key_at s y) (key_octets s x o) (key_octets s y o) m n e

  module _ (a : Alike s 6 x y) where
    pub alike_one : Of s 6 x
    alike_one = a.one

    pub alike_other : Of s 6 y
    alike_other = a.other

    six_decide : bytes (key_at s x) (key_at s y) ≡ or_else (number (word_at s (x + 18)) (word_at s (y + 18))) (number (word_at (key_at s x) 16) (word_at (key_at s y) 16))
    six_decide =
        let m : length (key_at s x) ≡ 24 = rw (six_key_lem s x a.one.type (six_long s x o a.one)) in
        let n : length (key_at s y) ≡ 24 = rw (six_key_lem s y a.other.type (six_long s y o a.other)) in
        rw (six_middle s x o a.one, six_middle s y o a.other) (prefixes m n a.front)

    module _ (p q : ℕ) (d : p ≡ word_at s (x + 18)) (e : q ≡ word_at s (y + 18)) where
      read : bytes (key_at s x) (key_at s y) ≡ or_else (number p q) (number (word_at (key_at s x) 16) (word_at (key_at s y) 16))
      read = rw (d, e) six_decide

      pub six_before : p < q → true ≡ precedes s x y
      unfolding precedes
      six_before h = let e : bytes (key_at s x) (key_at s y) ≡ Less = read ∙ rw (number_less p q h) in rw e

      pub six_behind : q < p → false ≡ precedes s x y
      unfolding precedes
      six_behind h = let e : bytes (key_at s x) (key_at s y) ≡ Greater = read ∙ rw (number_greater p q h) in rw e

      module _ (r : Ordering) (f : r ≡ nat_cmp p q) where
        told : r ≡ number p q
        told = f ∙ number_is p q

        pub six_less : r ≡ Less → Less ≡ bytes (key_at s x) (key_at s y)
        six_less h = let z : number p q ≡ Less = sym told ∙ h in sym (read ∙ rw z)

        pub six_greater : r ≡ Greater → Greater ≡ bytes (key_at s x) (key_at s y)
        six_greater h = let z : number p q ≡ Greater = sym told ∙ h in sym (read ∙ rw z)

        pub six_rest : r ≡ Equal → (u w : ℕ) → u ≡ word_at (key_at s x) 16 → w ≡ word_at (key_at s y) 16 → (t : Ordering) → t ≡ nat_cmp u w → t ≡ bytes (key_at s x) (key_at s y)
        six_rest h u w g k t m = let z : number p q ≡ Equal = sym told ∙ h in m ∙ number_is u w ∙ rw (g, k) (sym (read ∙ rw z))

pub ruleset sixes = (alike_one, alike_other, six_less, six_greater, six_rest)

module _ (s : Bytes) (x y : ℕ) where
  module _ (a : Alike s 9 x y) where
    pub keys_one : Payload s x
    keys_one = a.one.payload

    pub keys_other : Payload s y
    keys_other = a.other.payload

    pub keys_end : (n : ℕ) → n ≡ size_at s x → x + n ≤ length s
    keys_end n e = omega (arith, a.one.payload.within)

    pub keys_end_2 : (n : ℕ) → n ≡ size_at s y → y + n ≤ length s
    keys_end_2 n e = omega (arith, a.other.payload.within)

    pub keys_from : (n : ℕ) → n ≡ size_at s x → x + 8 ≤ x + n
    keys_from n e = omega (arith, size_least s x a.one.payload)

    pub keys_from_2 : (n : ℕ) → n ≡ size_at s y → y + 8 ≤ y + n
    keys_from_2 n e = omega (arith, size_least s y a.other.payload)

    pub keys_decide : (m n : ℕ) → m ≡ size_at s x → n ≡ size_at s y → (r : Ordering) → r ≡ bytes (part s (x + 8) (x + m)) (part s (y + 8) (y + n))
        → r ≡ bytes (key_at s x) (key_at s y)
    keys_decide m n d e r f = f ∙ rw (d, e, router_key_lem s x a.one.type, router_key_lem s y a.other.type)

pub ruleset routers = (keys_one, keys_other, keys_end, keys_end_2, keys_from, keys_from_2, keys_decide)

-- ---- messages with the same front have the same type

word_small : (s : Bytes) → Octets s → (i : ℕ) → word_at s i < 18_446_744_073_709_551_616
unfolding word_at
word_small s o i = plain (four_at s i) (four_at s (i + 4)) (four_lt s o i) (four_lt s o (i + 4))
  where
    plain : (x y : ℕ) → x < 4_294_967_296 → y < 4_294_967_296 → x * 4_294_967_296 + y < 18_446_744_073_709_551_616
    plain x y h k = omega arith

module _ (s : Bytes) (o : Octets s) where
  four_below : (at : ℕ) → Payload s at → type_at s at ≡ 4 → front_key (key_at s at) < 0x0105000000000000
  four_below at p t =
      let e = front_four s at p o t (word_at s (at + 12)) refl in
      omega (arith, e, word_small s o (at + 12))

  six_above : (at : ℕ) → Payload s at → type_at s at ≡ 6 → 0x0106000000000000 ≤ front_key (key_at s at)
  six_above at p t = let e = front_six s at p o t (word_at s (at + 12)) refl in omega (arith, e)

  six_below : (at : ℕ) → Payload s at → type_at s at ≡ 6 → front_key (key_at s at) < 0x0107000000000000
  six_below at p t = let e = front_six s at p o t (word_at s (at + 12)) refl in omega (arith, e, word_small s o (at + 12))

  key_above : (at : ℕ) → Payload s at → type_at s at ≡ 9 → 0x0200000000000000 ≤ front_key (key_at s at)
  key_above at p t = let e = front_key_lem s at p o t (word_at s (at + 8)) refl in omega (arith, e)

  same_type : (x y : ℕ) → Fronted s x y → type_at s y ≡ type_at s x
  same_type x y f = go f.one.sized f.other.sized
    where
      go : Sized s x → Sized s y → type_at s y ≡ type_at s x
      go (v4 t n) (v4 u m) = u ∙ sym t
      go (v4 t n) (v6 u m) = absurd (omega (arith, f.front, four_below x f.one t, six_above y f.other u))
      go (v4 t n) (key u m l) = absurd (omega (arith, f.front, four_below x f.one t, key_above y f.other u))
      go (v6 t n) (v4 u m) = absurd (omega (arith, f.front, four_below y f.other u, six_above x f.one t))
      go (v6 t n) (v6 u m) = u ∙ sym t
      go (v6 t n) (key u m l) = absurd (omega (arith, f.front, six_below x f.one t, key_above y f.other u))
      go (key t n k) (v4 u m) = absurd (omega (arith, f.front, four_below y f.other u, key_above x f.one t))
      go (key t n k) (v6 u m) = absurd (omega (arith, f.front, six_below y f.other u, key_above x f.one t))
      go (key t n k) (key u m l) = u ∙ sym t

-- ---- compare_behind

module _ (s : Bytes) (o : Octets s) (x y : ℕ) (f : Fronted s x y) where
  alike : (kind : ℕ) → type_at s x ≡ kind → Alike s kind x y
  alike kind e = record { one = record { payload = f.one; type = e }; other = record { payload = f.other; type = same_type s o x y f ∙ e }; front = f.front }

  pub behind_one : Payload s x
  behind_one = f.one

  module _ (k : ℕ) (d : k ≡ type_at s x) where
    pub behind_four : k ≡ 4 → Of s 4 x
    behind_four e = (alike 4 (sym d ∙ e)).one

    pub behind_four_2 : k ≡ 4 → Of s 4 y
    behind_four_2 e = (alike 4 (sym d ∙ e)).other

    pub behind_six : k ≡ 6 → Alike s 6 x y
    behind_six e = alike 6 (sym d ∙ e)

    pub behind_keys : (k ≡ 4 → ⊥) → (k ≡ 6 → ⊥) → Alike s 9 x y
    behind_keys g h = alike 9 (third s x f.one (λ e. g (d ∙ e)) (λ e. h (d ∙ e)))

    module _ (e : k ≡ 4) (u w : ℕ) (g : u ≡ word_at (key_at s x) 16) (h : w ≡ word_at (key_at s y) 16) where
      four_last : bytes (key_at s x) (key_at s y) ≡ number u w
      unfolding word_at
      four_last =
          let i = four_key_lem s x (behind_four e).type (least s x f.one) in
          let j = four_key_lem s y (behind_four_2 e).type (least s y f.other) in
          let m : length (key_at s x) ≡ 24 = rw i in
          let n : length (key_at s y) ≡ 24 = rw j in
          let p : word_at (key_at s x) 8 ≡ 0 = rw i in
          let q : word_at (key_at s y) 8 ≡ 0 = rw j in
          rw (g, h) (prefixes s o x y m n f.front ∙ rw (p, q))

      pub four_compare : (r : Ordering) → r ≡ nat_cmp u w → r ≡ bytes (key_at s x) (key_at s y)
      four_compare r f = f ∙ number_is u w ∙ sym four_last

pub ruleset behinds = (behind_one, behind_four, behind_four_2, behind_six, behind_keys, four_compare)

-- ---- is_before, same_record

module _ (s : Bytes) (x y : ℕ) (r : Ordering) (e : r ≡ bytes (key_at s x) (key_at s y)) where
  pub before_less : r ≡ Less → true ≡ precedes s x y
  unfolding precedes
  before_less f = rw (sym e ∙ f)

  pub before_equal : r ≡ Equal → ltb x y ≡ precedes s x y
  unfolding precedes
  before_equal f = rw (sym e ∙ f)

  pub before_greater : r ≡ Greater → false ≡ precedes s x y
  unfolding precedes
  before_greater f = rw (sym e ∙ f)

  pub same_is : (b : Bool) → b ≡ is_eq r → b ≡ is_equal (bytes (key_at s x) (key_at s y))
  same_is b f = f ∙ equal_is r ∙ ap is_equal e

module _ (s : Bytes) (o : Octets s) (x y : ℕ) (a : Payload s x) (b : Payload s y) (p q : ℕ) (d : p ≡ front_key (key_at s x)) (e : q ≡ front_key (key_at s y)) where
  pub fronts_less : p < q → Less ≡ bytes (key_at s x) (key_at s y)
  fronts_less h = sym (front_less (key_at s x) (key_at s y) (λ i. (key_octets s y o i).fits) (omega arith))

  pub fronts_greater : q < p → Greater ≡ bytes (key_at s x) (key_at s y)
  fronts_greater h = sym (front_greater (key_at s x) (key_at s y) (λ i. (key_octets s x o i).fits) (omega arith))

  pub front_before : p < q → true ≡ precedes s x y
  front_before h = before_less s x y Less (fronts_less h) refl

  pub front_behind : q < p → false ≡ precedes s x y
  front_behind h = before_greater s x y Greater (fronts_greater h) refl

  pub fronts_same : p ≡ q → Fronted s x y
  fronts_same h = record { one = a; other = b; front = omega arith }

  pub fronts_other : (p ≡ q → ⊥) → false ≡ is_equal (bytes (key_at s x) (key_at s y))
  fronts_other n = go (ℕ_compare p q)
    where
      go : Compared p q → false ≡ is_equal (bytes (key_at s x) (key_at s y))
      go (lt h) = ap is_equal (fronts_less h)
      go (eq h) = absurd (n h)
      go (gt h) = ap is_equal (fronts_greater h)

module _ (s : Bytes) (o : Octets s) (p x q y : ℕ) (a : FrontOf s p x) (b : FrontOf s q y) where
  pub by_before : p < q → true ≡ precedes s x y
  by_before = front_before s o x y a.payload b.payload p q a.is b.is

  pub by_behind : q < p → false ≡ precedes s x y
  by_behind = front_behind s o x y a.payload b.payload p q a.is b.is

  pub by_same : q ≤ p → p ≤ q → Fronted s x y
  by_same h k = fronts_same s o x y a.payload b.payload p q a.is b.is (omega arith)

pub front_of_lem : (s : Bytes) (p x : ℕ) → Payload s x → p ≡ front_key (key_at s x) → FrontOf s p x
front_of_lem s p x a e = record { payload = a; is = e }

pub ruleset orders = (before_less, before_equal, before_greater)

pub ruleset by_fronts = (by_before, by_behind, by_same, front_of_lem)

pub ruleset comparing = (fronts_same, fronts_other, same_is)
