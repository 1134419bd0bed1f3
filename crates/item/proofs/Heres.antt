-- The field at a place of a good run: what it says, where the next one stands, and the front of its key.
use Prim.Native.Nat.{ℕ, ◌+◌, ◌≤◌, ◌<◌}
use mathlib.Core.Path.{◌≡◌, refl, sym, ap, subst, ◌∙◌}
use mathlib.Core.List.{◌∷◌, ◌++◌, map}
use mathlib.Core.Bool.{Bool, true, false, cond}
use native.Mathlib.Omega.{arith}
use mir.Syntax.{w8}
use mir.Val.{Fits}
use lib.Dec.{eqb}
use lib.ListN.{length, get_or, take, drop, length-append, length-drop}
use lib.Seq.{drop-drop, take_at}
use Rattle.number.specs.Number.{word_at}
use Rattle.number.specs.Bytes.{AllBytes}
use Rattle.body.specs.declared.tag.Form.{Form}
use Rattle.body.specs.declared.tag.Tag.{Tag}
use Rattle.body.specs.declared.tag.Tag.TheVariants.{Unknown, Origin, RouterKey, Aspa}
use Rattle.body.specs.Tag.{tag_of, kind_number, kind_of}
use Rattle.field.specs.Head.{whole, front}
use Rattle.field.specs.Key.{key_of}
use Rattle.field.specs.Cells.{Cell}
use Rattle.field.specs.Places.{GoodAt}
use Rattle.field.proofs.Fronts.{opens}
use Rattle.field.proofs.Run.{cells_more}
use Rattle.field.proofs.Common.{front_same, Found, found, good_behind}
use Rattle.payload.specs.Content.{Bytes, entry_of}
use Rattle.payload.specs.Payload.{entries}
use Rattle.item.specs.Front.{front_key, front_in}
use Rattle.item.proofs.Fronts.{front_here, cons_bytes, take_bytes, drop_bytes}

-- a kind is at most 3
pub low_kind : (form : Form) (tag : ℕ) → kind_of form tag ≤ 3
unfolding kind_of
low_kind form tag = go (tag_of form tag)
  where
    go : (t : Tag) → kind_number t ≤ 3
    go Unknown = omega arith
    go (Origin a) = omega arith
    go (RouterKey a) = omega arith
    go (Aspa a) = omega arith

-- a key of a kind and bytes is of bytes
pub key_octets : (kind : ℕ) (b : Bytes) → kind < 256 → AllBytes b → AllBytes (key_of kind b)
unfolding key_of
key_octets kind b h o = go (eqb kind 3)
  where
    go : (t : Bool) → AllBytes (kind ∷ cond t (take 4 b) b)
    go true = cons_bytes kind (take 4 b) h (take_bytes 4 b o)
    go false = cons_bytes kind b h o

module _ (form : Form) (s : Bytes) (at : ℕ) (g : GoodAt form s at) (h : at < length s) where
  abbrev pub here : Found form s at
  here = found form s at g h

  abbrev pub cell : Cell
  cell = record { tag = here.tag; body = here.body }

  abbrev pub next : ℕ
  next = at + (3 + length here.body)

  pub reads : front (drop at s) ≡ whole here.tag here.body (drop next s)
  reads = rw (drop-drop (3 + length here.body) at s) at (front_same (drop at s) (drop at s) here.tag here.body here.rest here.reads refl)

  pub said : entries form (drop at s) ≡ entry_of form cell ∷ entries form (drop next s)
  unfolding entries
  said = ap (map (entry_of form)) (cells_more (drop at s) here.tag here.body (drop next s) reads)

  pub behind : GoodAt form s next
  behind = good_behind form s at here.tag here.body (drop next s) next g reads refl

  pub within : next ≤ length s
  within =
      let o = opens (drop at s) here.tag here.body here.rest here.reads in
      let z : length (drop at s) ≡ 3 + (length here.body + length here.rest) = ap length o.bytes ∙ omega (arith, length-append here.body here.rest) in
      omega (arith, z, length-drop at s)

  -- its body lies behind its head
  pub lies : here.body ≡ take (length here.body) (drop (at + 3) s)
  lies =
      let o = opens (drop at s) here.tag here.body here.rest here.reads in
      let z : drop (at + 3) s ≡ here.body ++ here.rest = sym (drop-drop 3 at s) ∙ ap (drop 3) o.bytes in
      sym (ap (take (length here.body)) z ∙ take_at here.body here.rest (length here.body) refl)

  pub front_is : ((i : ℕ) → Fits w8 (get_or s i 0)) → at + 11 ≤ length s → front_key (entry_of form cell).key ≡ front_in (kind_of form here.tag) (word_at s (at + 3))
  front_is o k = front_here form here.tag here.body here.good s o (at + 3) (omega arith) lies

  -- its key is made of bytes
  pub octets : ((i : ℕ) → Fits w8 (get_or s i 0)) → AllBytes (entry_of form cell).key
  octets o = key_octets (kind_of form here.tag) here.body (omega (arith, low_kind form here.tag)) (subst AllBytes (sym lies) (take_bytes (length here.body) (drop (at + 3) s) (drop_bytes (at + 3) s (λ i. (o i).fits))))
