-- Laws of fronts: they are ordered as the keys are.
use Prim.Native.Nat.{ℕ, zero, suc, ◌+◌, ◌*◌, ◌-◌, ◌/◌, ◌≤◌, ◌<◌}
use mathlib.Core.Path.{◌≡◌, refl, sym, ap, ◌∙◌}
use mathlib.Core.List.{◌∷◌}
use mathlib.Core.Bool.{Bool, true, false, cond}
use native.Mathlib.Omega.{arith}
use mir.Val.{Fits}
use mir.Syntax.{w8}
use lib.Dec.{eqb}
use lib.ListN.{length, get_or, take, drop, length-take}
use lib.Seq.{get_or-take, get_or-drop, drop-drop}
use Rattle.number.specs.Number.{word_at}
use Rattle.number.specs.Bytes.{part}
use Rattle.body.specs.declared.tag.Form.TheVariants.{Delta}
use Rattle.body.specs.Tag.{kind_of}
use Rattle.body.proofs.Digits.{delta_kind}
use Rattle.field.specs.declared.key.Key.{Key}
use Rattle.field.specs.Places.{key_in}
use Rattle.payload.specs.Content.{Bytes, entry_of}
use Rattle.item.specs.declared.place.Entry.{Entry}
use Rattle.item.specs.Place.{KeyIn}
use Rattle.item.proofs.Places.{drop_take}
use Rattle.cursors.specs.Cursor.{run, Stands, Heads}
use Rattle.item.specs.Front.{packs, front_key, front_in, top}
use Rattle.item.proofs.Heres.{low_kind, here, cell, next, said, front_is, octets}
use Rattle.item.proofs.Fronts.{drop_bytes, take_bytes, cons_bytes}
use Rattle.cursors.specs.Front.{Fronts}
use Rattle.cursors.proofs.Standing.{head_end, head_is_lem, head_fits}
use Rattle.std.specs.Prelude.{None, Option, Some}

-- ---- digit

pub digit_in : (s : Bytes) (i to x : ℕ) → i < to → x ≡ get_or s i 0 → x ≡ get_or (part s i to) 0 0
digit_in s i to x h e =
    let z : i + 0 ≡ i = omega arith in
    e ∙ sym (get_or-take (to - i) (drop i s) 0 0 (omega arith) ∙ (get_or-drop i s 0 0 ∙ ap (λ (k : ℕ). get_or s k 0) z))

pub digit_out : (s : Bytes) (i to : ℕ) → to ≤ i → 0 ≡ get_or (part s i to) 0 0
digit_out s i to h = let e : to - i ≡ 0 = omega arith in rw e

pub ruleset digits = (digit_in, digit_out)

-- ---- front_of

next_part : (s : Bytes) (i j to : ℕ) → j ≡ i + 1 → part s j to ≡ drop 1 (part s i to)
next_part s i j to q =
    let e : to - i - 1 ≡ to - j = omega (arith, q) in
    let z : i + 1 ≡ j = sym q in
    sym (drop_take 1 (to - i) (drop i s) ∙ rw (e, drop-drop 1 i s, z))

-- m more bytes behind a number leave it below the top
unfoldable pub Room : ℕ → ℕ → Type 0
Room v zero = v < top
Room v (suc m) = Room (v * 256 + 255) m

room_less : (m v w : ℕ) → v ≤ w → Room w m → Room v m
unfolding Room
room_less zero v w h r = omega (arith, r)
room_less (suc m) v w h r = room_less m (v * 256 + 255) (w * 256 + 255) (omega arith) r

room_low : (m v : ℕ) → Room v m → v < top
unfolding Room
room_low zero v r = r
room_low (suc m) v r = omega (arith, room_low m (v * 256 + 255) r)

-- the bytes up to i are packed, and the others give the front
pub record Packing (s : Bytes) (k : Key) (front i : ℕ) : Type 0 where
  pub key : KeyIn s k
  pub until : i ≤ k.from + 7
  pub room : Room front (k.from + 7 - i)
  pub left : packs front (k.from + 7 - i) (part s i k.to) ≡ front_key (key_in s k)

pub pack_start : (s : Bytes) (k : Key) → KeyIn s k → Packing s k k.kind k.from
unfolding packs Room
pack_start s k i =
    let z : 0 * 256 + k.kind ≡ k.kind = omega arith in
    let e : k.from + 7 - k.from ≡ 7 = omega arith in
    record {
      key = i;
      until = omega arith;
      room = rw e (room_less 7 k.kind 3 (omega (arith, i.kind)) (omega arith));
      left = rw (e, z);
    }

module _ (s : Bytes) (k : Key) (front i : ℕ) (p : Packing s k front i) where
  module _ (h : i < k.from + 7) where
    more : k.from + 7 - i ≡ suc (k.from + 7 - (i + 1))
    more = omega arith

    room : Room (front * 256 + 255) (k.from + 7 - (i + 1))
    unfolding Room
    room = rw more at p.room

    low : front * 256 + 255 < top
    low = room_low (k.from + 7 - (i + 1)) (front * 256 + 255) room

    pub pack_wide : front * 256 < 18_446_744_073_709_551_616
    pack_wide = omega (arith, low)

    module _ (d : ℕ) (b : d < 256) where
      pub pack_fits : front * 256 + d < 18_446_744_073_709_551_616
      pack_fits = omega (arith, low)

      pub pack_again : d ≡ get_or (part s i k.to) 0 0 → Packing s k (front * 256 + d) (i + 1)
      unfolding packs
      pack_again e = record {
        key = p.key;
        until = omega arith;
        room = room_less (k.from + 7 - (i + 1)) (front * 256 + d) (front * 256 + 255) (omega arith) room;
        left = rw (next_part s i (i + 1) k.to refl, e) (rw more at p.left);
      }

  module _ (h : k.from + 7 ≤ i) where
    none : k.from + 7 - i ≡ 0
    none = omega arith

    pub pack_done : front ≡ front_key (key_in s k)
    unfolding packs
    pack_done = rw none at p.left

    pub pack_low : front < top
    pack_low = room_low (k.from + 7 - i) front p.room

pub ruleset packing = (pack_start, pack_wide, pack_fits, pack_again, pack_done, pack_low)

-- ---- front_at

module _ (s : Bytes) (p e : ℕ) (r : Option Entry) (h : Heads s p e r) where
  pub front_end : r ≡ None → Fronts s p e top
  front_end q = let z = head_end s p e r h q in record { is = rw z; octets = rw z tt }

  pub front_key_lem : (x : Entry) → r ≡ Some x → KeyIn s x.key
  front_key_lem x q = (head_fits s p e r h x q).key

  pub front_one : (x : Entry) → r ≡ Some x → (v : ℕ) → v ≡ front_key (key_in s x.key) → v < top → ((i : ℕ) → Fits w8 (get_or s i 0)) → Fronts s p e v
  front_one x q v ev low o =
      let ki = front_key_lem x q in
      let z = head_is_lem s p e r h x q in
      let w : front_key (key_in s x.key) < top = rw ev at low in
      record {
        is = rw z ev;
        octets = rw z (cons_bytes x.key.kind (part s x.key.from x.key.to) (omega (arith, ki.kind)) (take_bytes (x.key.to - x.key.from) (drop x.key.from s) (drop_bytes x.key.from s (λ i. (o i).fits))), w);
      }

pub ruleset fronting = (front_end, front_key_lem, front_one)

-- ---- front_at, by a word

-- a front of a low kind is below the top
front_under : (kind w : ℕ) → kind ≤ 3 → w < 18_446_744_073_709_551_616 → front_in kind w < top
unfolding front_in
front_under kind w h l = go (eqb kind 3)
  where
    go : (t : Bool) → kind * 72_057_594_037_927_936 + cond t (w / 4_294_967_296 * 16_777_216) (w / 256) < top
    go true = omega arith
    go false = omega arith

module _ (s : Bytes) (p e : ℕ) (t : Stands s p e) where
  pub front_order : p ≤ e
  front_order = omega (arith, t.ready.within, length-take e s)

  module _ (h : 11 ≤ e - p) where
    pub front_inside : p < length s
    front_inside = omega (arith, t.within)

    pub front_room : p + 3 + 8 ≤ length s
    front_room = omega (arith, t.within)

    module _ (o : (i : ℕ) → Fits w8 (get_or s i 0)) where
      abbrev part_of_lem : Bytes
      part_of_lem = take e s

      part_bytes : (i : ℕ) → Fits w8 (get_or part_of_lem i 0)
      part_bytes i = record { fits = take_bytes e s (λ j. (o j).fits) i }

      long : length part_of_lem ≡ e
      long = length-take e s ∙ omega (arith, t.within)

      inside : p < length part_of_lem
      inside = omega (arith, long)

      -- of a byte of the part
      same : (i : ℕ) → i < e → get_or part_of_lem i 0 ≡ get_or s i 0
      same i k = get_or-take e s i 0 k

      same_word : word_at part_of_lem (p + 3) ≡ word_at s (p + 3)
      unfolding word_at
      same_word =
          rw (
            same (p + 3) (omega arith),
            same (p + 3 + 1) (omega arith),
            same (p + 3 + 2) (omega arith),
            same (p + 3 + 3) (omega arith),
            same (p + 3 + 4) (omega arith),
            same (p + 3 + 4 + 1) (omega arith),
            same (p + 3 + 4 + 2) (omega arith),
            same (p + 3 + 4 + 3) (omega arith),
          )

      word_low : word_at s (p + 3) < 18_446_744_073_709_551_616
      unfolding word_at
      word_low =
          omega (
            arith,
            (o (p + 3)).fits,
            (o (p + 3 + 1)).fits,
            (o (p + 3 + 2)).fits,
            (o (p + 3 + 3)).fits,
            (o (p + 3 + 4)).fits,
            (o (p + 3 + 4 + 1)).fits,
            (o (p + 3 + 4 + 2)).fits,
            (o (p + 3 + 4 + 3)).fits,
          )

      pub front_word : (w v : ℕ) → w ≡ word_at s (p + 3) → v ≡ front_in (get_or s p 0 / 16) w → Fronts s p e v
      unfolding run
      front_word w v q z =
          let f = here Delta part_of_lem p t.ready.good inside in
          let k : get_or s p 0 / 16 ≡ kind_of Delta f.tag = ap (λ (x : ℕ). x / 16) (sym (same p (omega arith)) ∙ f.is) ∙ sym (delta_kind f.tag f.body f.good) in
          let u : v ≡ front_key (entry_of Delta (cell Delta part_of_lem p t.ready.good inside)).key
          = z ∙ rw (q, k, ← same_word) (sym (front_is Delta part_of_lem p t.ready.good inside part_bytes (omega (arith, long)))) in
          let b : v < top = rw z (front_under (get_or s p 0 / 16) w (omega (arith, k, low_kind Delta f.tag)) (omega (arith, q, word_low))) in
          let c : run s p e ≡ entry_of Delta (cell Delta part_of_lem p t.ready.good inside) ∷ run s (next Delta part_of_lem p t.ready.good inside) e = said Delta part_of_lem p t.ready.good inside in
          record {
            is = rw c u;
            octets = rw c (octets Delta part_of_lem p t.ready.good inside part_bytes, omega (arith, u, b));
          }

pub ruleset fronting_word = (front_order, front_inside, front_room, front_word)
