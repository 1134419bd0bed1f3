-- Laws of put_item: the field of an item, written part by part.
use Prim.Native.Nat.{ℕ, suc, ◌+◌, ◌/◌, ◌%◌, ◌^◌, ◌<◌, ◌≤◌}
use mathlib.Core.Path.{◌≡◌, refl, sym, ap, ◌∙◌}
use mathlib.Core.List.{[], ◌∷◌, ◌++◌}
use native.Mathlib.Omega.{arith}
use lib.ListN.{length, length-append}
use lib.Seq.{sets}
use Rattle.body.specs.declared.tag.Form.{Form}
use Rattle.body.specs.declared.tag.Form.TheVariants.{Snapshot, Delta}
use Rattle.field.specs.declared.key.Key.{Key}
use Rattle.field.specs.Cells.{field}
use Rattle.payload.specs.Content.{Bytes, values_for}
use Rattle.payload.specs.Count.{announces, withdraws}
use Rattle.item.specs.declared.place.Part.{Part}
use Rattle.item.specs.declared.place.Act.{Act}
use Rattle.item.specs.declared.place.Act.TheVariants.{Announce, Withdraw, Update}
use Rattle.item.specs.declared.sink.Counts.{Counts}
use Rattle.item.specs.Place.{part_in, part_size, key_size, change_in, item_in, values_size, Lies, PartSized, ActFits, KeyIn}
use Rattle.item.specs.Write.{tag_as, field_as, plus_item, tag_place, plus_place}
use Rattle.item.proofs.Sinking.{act_sized, part_length, values_length, sets_append}

-- where a key's bytes lie
abbrev name_of : Key → Part
name_of k = record { from = k.from; to = k.to }

module _ (a : Bytes) (key : Key) (k : KeyIn a key) where
  pub name_sized : PartSized (name_of key)
  name_sized = record { ordered = k.fits.ordered; short = omega (arith, k.short) }

  pub name_lies : Lies a (name_of key)
  name_lies = record { ordered = k.fits.ordered; within = k.fits.within }

  name_length : length (part_in a (name_of key)) ≡ part_size (name_of key)
  name_length = part_length a (name_of key) k.fits.ordered k.fits.within

values_small : (a b : Bytes) (act : Act) → ActFits a b act → values_size act ≤ 32_770
values_small a b (Announce n) f = omega (arith, f.parts.short)
values_small a b (Withdraw p) f = omega (arith, f.parts.short)
values_small a b (Update p n) f = omega (arith, f.parts.0.short, f.parts.1.short)

-- a tag and a count by places are those of the change that lies there
tag_same : (form : Form) (kind : ℕ) (a b : Bytes) (act : Act) → tag_place form kind act ≡ tag_as form kind (change_in a b act)
tag_same Snapshot kind a b act = refl
tag_same Delta kind a b (Announce n) = refl
tag_same Delta kind a b (Withdraw p) = refl
tag_same Delta kind a b (Update p n) = refl

pub counts_path : {l m n l' m' n' : ℕ} → l ≡ l' → m ≡ m' → n ≡ n' →
    ◌≡◌ {A = Counts} (record { len = l; announced = m; withdrawn = n }) (record { len = l'; announced = m'; withdrawn = n' })
counts_path p q r = λ i. record { len = p i; announced = q i; withdrawn = r i }

counts_same : (c : Counts) (a b : Bytes) (act : Act) (size : ℕ) →
    plus_place c act size ≡ record { len = c.len + size; announced = c.announced + announces (change_in a b act); withdrawn = c.withdrawn + withdraws (change_in a b act) }
counts_same c a b (Announce n) size = counts_path refl refl (omega arith)
counts_same c a b (Withdraw p) size = counts_path refl (omega arith) refl
counts_same c a b (Update p n) size = counts_path refl refl (omega arith)

module _ (a b : Bytes) (key : Key) (act : Act) (k : KeyIn a key) (f : ActFits a b act) where
  size_small : key_size key + values_size act < 65536
  size_small = omega (arith, values_small a b act f, k.short)

  body_length : length (part_in a (name_of key) ++ values_for (change_in a b act)) ≡ key_size key + values_size act
  body_length = length-append (part_in a (name_of key)) (values_for (change_in a b act)) ∙ rw (name_length a key k, values_length a b act f)

  field_length_lem : (form : Form) → length (field_as form (item_in a b key act)) ≡ 3 + (key_size key + values_size act)
  unfolding field
  field_length_lem form = omega (arith, body_length)

  pub field_small : (form : Form) → length (field_as form (item_in a b key act)) ≤ 33_821
  field_small form = omega (arith, field_length_lem form, values_small a b act f, k.short)

  pub item_counts : (form : Form) (c r : Counts) (size : ℕ) → size ≡ 3 + (key_size key + values_size act) → r ≡ plus_place c act size →
      r ≡ plus_item form c (item_in a b key act)
  item_counts form c r size d e =
      e ∙ counts_same c a b act size
      ∙ counts_path (ap (λ (n : ℕ). c.len + n) (d ∙ sym (field_length_lem form))) refl refl

  pub item_small : (size : ℕ) → size ≡ 3 + (key_size key + values_size act) → size < 65539
  item_small size d = omega (arith, size_small)

  module _ (behind vs : ℕ) (eb : behind ≡ key_size key) (ev : vs ≡ values_size act) where
    pub size_fits : behind + vs < 65536
    size_fits = omega (arith, size_small)

    pub sum_fits : behind + vs < 2 ^ 64
    sum_fits = omega (arith, size_small)

    pub field_sum : 3 + (behind + vs) < 2 ^ 64
    field_sum = omega (arith, size_small)

    pub field_bytes : (form : Form) (o q r t : Bytes) (i tag : ℕ) → tag ≡ tag_place form key.kind act →
        q ≡ sets o i (tag ∷ (behind + vs) / 256 ∷ (behind + vs) % 256 ∷ []) → r ≡ sets q (i + 3) (part_in a (name_of key)) →
        t ≡ sets r (i + 3 + behind) (values_for (change_in a b act)) → t ≡ sets o i (field_as form (item_in a b key act))
    unfolding field
    field_bytes form o q r t i tag et eq er es =
        let j : i + 3 ≡ suc (suc (suc i)) = omega arith in
        let n : behind + vs ≡ length (part_in a (name_of key) ++ values_for (change_in a b act)) = rw (eb, ev) (sym body_length) in
        let body : Bytes = part_in a (name_of key) ++ values_for (change_in a b act) in
        let l : length (part_in a (name_of key)) ≡ behind = name_length a key k ∙ sym eb in
        let head : sets o i (tag_as form key.kind (change_in a b act) ∷ length body / 256 ∷ length body % 256 ∷ []) ≡ q
        = rw (← n, ← tag_same form key.kind a b act, ← et) (sym eq) in
        es ∙ sym (
        ap (λ (v : Bytes). sets v (suc (suc (suc i))) body) head
        ∙ sets_append (part_in a (name_of key)) (values_for (change_in a b act)) q (suc (suc (suc i)))
        ∙ rw (← j, ← er, l)
        )

pub sum_is : (key : Key) (act : Act) (behind vs : ℕ) → behind ≡ key_size key → vs ≡ values_size act → 3 + (behind + vs) ≡ 3 + (key_size key + values_size act)
sum_is key act behind vs p q = rw (p, q)

pub room_body : (a : Bytes) (key : Key) (behind i : ℕ) → i < 2 ^ 62 → KeyIn a key → behind ≡ key_size key → i + 3 + behind < 2 ^ 63
room_body a key behind i h k e = omega (arith, k.short)

pub ruleset fields = (name_sized, name_lies, act_sized, size_fits, sum_fits, field_sum, sum_is, field_bytes, room_body)

pub ruleset items = (item_counts, item_small)
