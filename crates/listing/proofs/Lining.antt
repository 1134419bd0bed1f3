-- Laws of the lines of a listing.
use Prim.Native.Nat.{ℕ, ◌+◌, ◌-◌, ◌*◌, ◌^◌, ◌<◌, ◌≤◌}
use mathlib.Core.Path.{◌≡◌, refl}
use mathlib.Core.List.{[], ◌∷◌, ◌++◌}
use native.Mathlib.Numerals.{add-one}
use native.Mathlib.Omega.{arith}
use borrow.Author.Tests.{lt-ltb, le-ltb}
use lib.ListN.{length, get_or, drop, length-append, drop_of_length-le}
use lib.Seq.{drop-cons}
use Rattle.number.specs.Bytes.{part}
use Rattle.field.specs.declared.head.Field.{Field}
use Rattle.field.specs.declared.head.Field.TheVariants.{End, Cut, Whole}
use Rattle.field.specs.Head.{field_at}
use Rattle.field.specs.Cells.{Cell, cells}
use Rattle.field.proofs.Fields.{whole_at, cut_at, body_ordered, body_within, field_less}
use Rattle.field.proofs.Run.{cells_at_cut}
use Rattle.field.proofs.Walk.{good_end, good_cells}
use Rattle.payload.specs.Content.{Bytes}
use Rattle.item.proofs.Sinking.{part_length}
use Rattle.payload.specs.Limit.{limit}
use Rattle.body.specs.declared.tag.Form.TheVariants.{Delta}
use Rattle.listing.specs.Put.{Puts}
use Rattle.listing.specs.Text.{hex_digit}
use Rattle.listing.specs.Listing.{mark, hex, hexes, line_of, lines_of}
use Rattle.listing.proofs.Putting.{puts_append, Left, left_start, left_end, left_some}

-- ---- marks and digits

pub digit_low : (d : ℕ) → d < 10 → 48 + d ≡ hex_digit d
digit_low d h = rw (lt-ltb d 10 h)

pub digit_high : (d : ℕ) → 10 ≤ d → 87 + d ≡ hex_digit d
digit_high d h = rw (le-ltb d 10 h)

pub ruleset digits = (digit_low, digit_high)

-- ---- the bytes of a body

hexes_length : (s : Bytes) → length (hexes s) ≡ 3 * length s
unfolding hexes
hexes_length [] = refl
hexes_length (x ∷ s) = omega (arith, hexes_length s)

-- the first k bytes of s were put at i
pub record Hexing (s o₀ : Bytes) (i : ℕ) (o : Bytes) (k end : ℕ) : Type 0 where
  pub short : length s ≤ limit Delta
  pub low : i < 2 ^ 62
  pub passed : k ≤ length s
  pub far : end ≡ i + 3 * k
  pub left : Left o end (hexes (drop k s)) o₀ i (hexes s)

pub hexing_start : (s o : Bytes) (i : ℕ) → length s ≤ limit Delta → i < 2 ^ 62 → Hexing s o i o 0 i
hexing_start s o i h g = record { short = h; low = g; passed = omega arith; far = omega arith; left = left_start o i (hexes s) }

module _ (s o₀ : Bytes) (i : ℕ) (o : Bytes) (k end : ℕ) (c : Hexing s o₀ i o k end) where
  pub hexing_end : length s ≤ k → Puts o₀ i (hexes s) o end
  unfolding hexes
  hexing_end h = left_end o end (hexes (drop k s)) o₀ i (hexes s) c.left (rw (drop_of_length-le s h))

  pub hexing_room : k < length s → end < 2 ^ 63
  hexing_room h = omega arith

  pub hexing_long : length o ≡ length o₀
  hexing_long = c.left.len

  pub hexing_again : (p : Bytes) (r : ℕ) → k < length s → Puts o end (hex (get_or s k 0)) p r → Hexing s o₀ i p (k + 1) r
  unfolding hexes
  hexing_again p r h f =
      let e : hexes (drop k s) ≡ hex (get_or s k 0) ++ hexes (drop (k + 1) s) = rw (add-one, drop-cons s k 0 h) in
      record {
        short = c.short;
        low = c.low;
        passed = omega arith;
        far = omega (arith, f.end, c.far);
        left = left_some o end (hexes (drop k s)) o₀ i (hexes s) c.left (hex (get_or s k 0)) (hexes (drop (k + 1) s)) p r e f;
      }

pub ruleset hexing = (hexing_start, hexing_end, hexing_room, hexing_long, hexing_again)

-- ---- one line

pub line_length : (c : Cell) → length (line_of c) ≡ 5 + 3 * length c.body
unfolding line_of
line_length c = omega (arith, hexes_length c.body, length-append (hexes c.body) (10 ∷ []))

module _ (tag m : ℕ) (body o p q t : Bytes) (i j k l : ℕ) (f : Puts o i (m ∷ []) p j) (g : Puts p j (hex tag) q k) (h : Puts q k (hexes body) t l) where
  pub line_room : length body ≤ limit Delta → i < 2 ^ 61 → l + 1 < 2 ^ 64
  line_room n w = omega (arith, f.end, g.end, h.end, hexes_length body)

  pub line_put : (u : Bytes) (r : ℕ) → m ≡ mark tag → Puts t l (10 ∷ []) u r → Puts o i (line_of (record { tag = tag; body = body })) u r
  unfolding line_of
  line_put u r e n =
      puts_append o p u (mark tag ∷ []) _ i j r (rw e at f)
      (puts_append p q u (hex tag) _ j k r g (puts_append q t u (hexes body) (10 ∷ []) k l r h n))

pub ruleset line = (line_put, line_room)

-- ---- all lines

-- the fields before `at` were put at i
pub record Lining (s o₀ : Bytes) (i : ℕ) (o : Bytes) (at end : ℕ) : Type 0 where
  pub short : length s ≤ limit Delta
  pub low : i < 1_024
  pub within : at ≤ length s
  pub far : end ≤ i + 3 * at
  pub left : Left o end (lines_of (cells (drop at s))) o₀ i (lines_of (cells s))

pub lining_start : (s o : Bytes) (i : ℕ) → length s ≤ limit Delta → i < 1_024 → Lining s o i o 0 i
lining_start s o i h g = record { short = h; low = g; within = omega arith; far = omega arith; left = left_start o i (lines_of (cells s)) }

module _ (s o₀ : Bytes) (i : ℕ) (o : Bytes) (at end : ℕ) (c : Lining s o₀ i o at end) where
  pub lining_room : end < 2 ^ 61
  lining_room = omega arith

  pub lining_long : length o ≡ length o₀
  lining_long = c.left.len

  module _ (x : Field) (f : x ≡ field_at s at) where
    pub lining_end : x ≡ End → Puts o₀ i (lines_of (cells s)) o end
    unfolding lines_of
    lining_end e = left_end o end (lines_of (cells (drop at s))) o₀ i (lines_of (cells s)) c.left (rw (good_end s at x f e))

    pub lining_cut : x ≡ Cut → Puts o₀ i (lines_of (cells s)) o end
    unfolding lines_of
    lining_cut e =
        left_end o end (lines_of (cells (drop at s))) o₀ i (lines_of (cells s)) c.left (rw (cells_at_cut (drop at s) (cut_at s at x f e)))

    module _ (tag from to : ℕ) (e : x ≡ Whole tag from to) where
      abbrev here : Cell
      here = record { tag = tag; body = part s from to }

      size : length (part s from to) ≡ to - from
      size = part_length s (record { from = from; to = to }) (body_ordered s at x f tag from to e) (body_within s at x f tag from to e)

      pub lining_short : length (part s from to) ≤ limit Delta
      lining_short = let w = body_within s at x f tag from to e in omega (arith, size, c.short)

      pub lining_again : (p : Bytes) (r : ℕ) → Puts o end (line_of here) p r → Lining s o₀ i p to r
      unfolding lines_of
      lining_again p r g =
          let w = whole_at s at x f tag from to e in
          let d : lines_of (cells (drop at s)) ≡ line_of here ++ lines_of (cells (drop to s)) = rw (good_cells s at x f tag from to e) in
          record {
            short = c.short;
            low = c.low;
            within = w.within;
            far = omega (arith, g.end, c.far, line_length here, size, w.start, w.ordered);
            left = left_some o end (lines_of (cells (drop at s))) o₀ i (lines_of (cells s)) c.left (line_of here) (lines_of (cells (drop to s))) p r d g;
          }

pub ruleset lining = (body_ordered, body_within, field_less, lining_start, lining_room, lining_long, lining_end, lining_cut, lining_short, lining_again)
