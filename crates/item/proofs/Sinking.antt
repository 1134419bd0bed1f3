-- Laws of writing into a lent slice.
use Prim.Native.Nat.{ℕ, suc, ◌+◌, ◌/◌, ◌%◌, ◌^◌, ◌<◌, ◌≤◌}
use mathlib.Core.Path.{◌≡◌, refl, sym, ap, ◌∙◌}
use mathlib.Core.List.{[], ◌∷◌, ◌++◌}
use native.Mathlib.Omega.{arith}
use native.Mathlib.Nat.{add-zero}
use lib.ListN.{length, set, length-append, length-take, length-drop}
use lib.Seq.{sets, set_out}
use Rattle.payload.specs.Content.{Bytes, count_of, values_for}
use Rattle.item.specs.declared.place.Part.{Part}
use Rattle.item.specs.declared.place.Act.{Act}
use Rattle.item.specs.declared.place.Act.TheVariants.{Announce, Withdraw, Update}
use Rattle.item.specs.Place.{part_in, part_size, change_in, values_size, Lies, PartFits, ActFits, PartSized, ActSized}

-- ---- stores

-- many bytes past the end are not written
pub sets_out : (vs o : Bytes) (i : ℕ) → length o ≤ i → sets o i vs ≡ o
sets_out [] o i h = refl
sets_out (v ∷ vs) o i h = rw (set_out o i v h) (sets_out vs o (suc i) (omega arith))

-- one run of stores behind another is one run
pub sets_append : (a b o : Bytes) (i : ℕ) → sets o i (a ++ b) ≡ sets (sets o i a) (i + length a) b
sets_append [] b o i = rw add-zero
sets_append (x ∷ a) b o i = let e : i + suc (length a) ≡ suc i + length a = omega arith in rw e (sets_append a b (set o i x) (suc i))

pub two_bytes_lem : (o p q : Bytes) (i n : ℕ) → p ≡ set o i (n / 256) → q ≡ set p (i + 1) (n % 256) → q ≡ sets o i (n / 256 ∷ n % 256 ∷ [])
two_bytes_lem o p q i n d e = let j : i + 1 ≡ suc i = omega arith in cc

-- ---- sizes

pub part_length : (s : Bytes) (p : Part) → p.from ≤ p.to → p.to ≤ length s → length (part_in s p) ≡ part_size p
part_length s p o w = simp (length-take, length-drop) (omega arith)

pub fits_length : (s : Bytes) (p : Part) → PartFits s p → length (part_in s p) ≡ part_size p
fits_length s p f = part_length s p f.ordered f.within

pub values_length : (a b : Bytes) (act : Act) → ActFits a b act → length (values_for (change_in a b act)) ≡ values_size act
values_length a b (Announce n) f = fits_length b n f.parts
values_length a b (Withdraw p) f = fits_length a p f.parts
values_length a b (Update p n) f =
    let x = fits_length a p f.parts.0 in
    let y = fits_length b n f.parts.1 in
    omega (arith, length-append (part_in a p) (part_in b n))

-- a part that fits has a size, and lies there
pub has_size : (s : Bytes) (p : Part) → PartFits s p → PartSized p
has_size s p f = record { ordered = f.ordered; short = f.short }

pub lies : (s : Bytes) (p : Part) → PartFits s p → Lies s p
lies s p f = record { ordered = f.ordered; within = f.within }

pub act_sized : (a b : Bytes) (act : Act) → ActFits a b act → ActSized act
act_sized a b (Announce n) f = record { parts = has_size b n f.parts }
act_sized a b (Withdraw p) f = record { parts = has_size a p f.parts }
act_sized a b (Update p n) f = record { parts = (has_size a p f.parts.0, has_size b n f.parts.1) }

-- ---- values

module _ (a b : Bytes) (act : Act) (f : ActFits a b act) where
  pub fits_announce : (n : Part) → act ≡ Announce n → PartFits b n
  fits_announce n e = rw e at f.parts

  pub fits_withdraw : (p : Part) → act ≡ Withdraw p → PartFits a p
  fits_withdraw p e = rw e at f.parts

  pub fits_former : (p n : Part) → act ≡ Update p n → PartFits a p
  fits_former p n e = (rw e at f.parts).0

  pub fits_new : (p n : Part) → act ≡ Update p n → PartFits b n
  fits_new p n e = (rw e at f.parts).1

  -- so each can be copied, and the former one has a size
  pub copy_announce : (n : Part) → act ≡ Announce n → Lies b n
  copy_announce n e = lies b n (fits_announce n e)

  pub copy_withdraw : (p : Part) → act ≡ Withdraw p → Lies a p
  copy_withdraw p e = lies a p (fits_withdraw p e)

  pub copy_former : (p n : Part) → act ≡ Update p n → Lies a p
  copy_former p n e = lies a p (fits_former p n e)

  pub copy_new : (p n : Part) → act ≡ Update p n → Lies b n
  copy_new p n e = lies b n (fits_new p n e)

  pub size_former : (p n : Part) → act ≡ Update p n → PartSized p
  size_former p n e = has_size a p (fits_former p n e)

  module _ (p n : Part) (e : act ≡ Update p n) (size : ℕ) (l : size ≡ part_size p) where
    pub size_small : size ≤ 16_384
    size_small = let g = fits_former p n e in omega (arith, g.short)

    pub count_small : size / 4 < 65536
    count_small = let g = size_small in omega arith

    pub behind_former : (i : ℕ) → i < 2 ^ 63 → i + 2 + size < 2 ^ 64
    behind_former i h = let g = size_small in omega arith

    pub put_update : (o : Bytes) (i : ℕ) (q r t : Bytes) → q ≡ sets o i (size / 4 / 256 ∷ size / 4 % 256 ∷ []) → r ≡ sets q (i + 2) (part_in a p) →
        t ≡ sets r (i + 2 + size) (part_in b n) → t ≡ sets o i (values_for (change_in a b act))
    put_update o i q r t x y z =
        let k : length (part_in a p) ≡ size = fits_length a p (fits_former p n e) ∙ sym l in
        let c : count_of (part_in a p) ≡ size / 4 / 256 ∷ size / 4 % 256 ∷ [] = ap (λ (m : ℕ). m / 4 / 256 ∷ m / 4 % 256 ∷ []) k in
        let w : sets o i (count_of (part_in a p)) ≡ q = ap (sets o i) c ∙ sym x in
        rw e (z ∙ sym (
        sets_append (count_of (part_in a p)) (part_in a p ++ part_in b n) o i
        ∙ ap (λ (v : Bytes). sets v (i + 2) (part_in a p ++ part_in b n)) w
        ∙ sets_append (part_in a p) (part_in b n) q (i + 2)
        ∙ rw (← y, k)
        ))

pub put_announce : (a b : Bytes) (act : Act) (o : Bytes) (i : ℕ) (n : Part) (q : Bytes) → act ≡ Announce n → q ≡ sets o i (part_in b n) →
    q ≡ sets o i (values_for (change_in a b act))
put_announce a b act o i n q e d = rw e d

pub put_withdraw : (a b : Bytes) (act : Act) (o : Bytes) (i : ℕ) (p : Part) (q : Bytes) → act ≡ Withdraw p → q ≡ sets o i (part_in a p) →
    q ≡ sets o i (values_for (change_in a b act))
put_withdraw a b act o i p q e d = rw e d

pub ruleset putting = (copy_announce, copy_withdraw, copy_former, copy_new, size_former, put_announce, put_withdraw, count_small, behind_former, put_update)
