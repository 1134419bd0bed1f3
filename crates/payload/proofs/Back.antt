-- A good field is the field of what it says; if it makes sense too, what it says is valid.
use Prim.Native.Nat.{ℕ, ◌/◌, ◌%◌}
use mathlib.Core.Path.{◌≡◌, refl, sym, ap, ◌∙◌}
use mathlib.Core.List.{[], ◌∷◌, ◌++◌, append-nil}
use mathlib.Core.Bool.{true}
use native.Mathlib.Omega.{arith}
use lib.ListN.{length, get_or, take, drop, length-take, length-drop, take-append-drop}
use lib.Seq.{drop-drop, drop-cons}
use Rattle.change.specs.Change.{update}
use Rattle.number.specs.Bytes.{AllBytes}
use Rattle.body.specs.declared.tag.Form.{Form}
use Rattle.body.specs.declared.tag.Form.TheVariants.{Snapshot, Delta}
use Rattle.body.specs.Tag.{tag_of, kind_of, good_body, sensible}
use Rattle.body.specs.Aspa.{good_aspa, good_update, former_size, former_of, new_of, sensible_providers, sensible_aspa, sensible_update}
use Rattle.body.proofs.Sizes.{both, aspa_parts, UpdateParts, update_parts}
use Rattle.field.specs.Key.{key_of}
use Rattle.field.specs.Cells.{Cell}
use Rattle.payload.specs.Content.{Bytes, count_of, entry_of, cell_for}
use Rattle.payload.specs.Valid.{ValidValue, ValidChange, Valid, origin, router_key, aspa, valid_announce, valid_withdraw, valid_update}
use Rattle.payload.proofs.Known as known
use Rattle.payload.proofs.Known.{Known}

abbrev cell : ℕ → Bytes → Cell
cell tag b = record { tag = tag; body = b }

cell_path : {t u : ℕ} {b c : Bytes} → t ≡ u → b ≡ c → cell t b ≡ cell u c
cell_path p q = λ i. record { tag = p i; body = q i }

-- the body of an ASPA: a customer of 4 bytes, then providers
pub aspa_valid : (b : Bytes) → good_aspa b ≡ true → sensible_aspa b ≡ true → ValidValue (3 ∷ take 4 b) (drop 4 b)
unfolding sensible_aspa
aspa_valid b h z =
    let p = aspa_parts b h in
    let k : length (take 4 b) ≡ 4 = simp length-take (omega (arith, p.customer)) in
    aspa k p.providers z

-- the body of an update: a customer, a count, the former providers, the new ones
module _ (b : Bytes) (h : good_update b ≡ true) where
  parts : UpdateParts b
  parts = update_parts b h

  pub update_valid : sensible_update b ≡ true → ValidChange (3 ∷ take 4 b) (update (former_of b) (new_of b))
  unfolding sensible_update
  update_valid z =
      let p = parts in
      let q = both (sensible_providers (take 4 b) (former_of b)) _ z in
      let k : length (take 4 b) ≡ 4 = simp length-take (omega (arith, p.head)) in
      valid_update (aspa k p.former q.0) (aspa k p.new q.1)

  former_length : length (former_of b) ≡ former_size b
  former_length = simp (length-take, length-drop) (omega (arith, parts.head))

  count_back : AllBytes b → count_of (former_of b) ≡ get_or b 4 0 ∷ get_or b 5 0 ∷ []
  count_back o =
      let x = o 4 in
      let y = o 5 in
      let l = former_length in
      let p : length (former_of b) / 4 / 256 ≡ get_or b 4 0 = omega arith in
      let q : length (former_of b) / 4 % 256 ≡ get_or b 5 0 = omega arith in
      cc

  pub update_back : AllBytes b → take 4 b ++ (count_of (former_of b) ++ (former_of b ++ new_of b)) ≡ b
  update_back o =
      let l = parts.head in
      let d4 : drop 4 b ≡ get_or b 4 0 ∷ drop 5 b = drop-cons b 4 0 (omega arith) in
      let d5 : drop 5 b ≡ get_or b 5 0 ∷ drop 6 b = drop-cons b 5 0 (omega arith) in
      let r : former_of b ++ new_of b ≡ drop 6 b = ap (λ (t : Bytes). former_of b ++ t) (sym (drop-drop (former_size b) 6 b)) ∙ take-append-drop (former_size b) (drop 6 b) in
      ap (λ (t : Bytes). take 4 b ++ (t ++ (former_of b ++ new_of b))) (count_back o)
      ∙ ap (λ (t : Bytes). take 4 b ++ (get_or b 4 0 ∷ get_or b 5 0 ∷ t)) r
      ∙ ap (λ (t : Bytes). take 4 b ++ t) (sym (d4 ∙ ap (λ (t : Bytes). get_or b 4 0 ∷ t) d5))
      ∙ take-append-drop 4 b

-- what a good field that makes sense says is valid
valid_known : (form : Form) (tag : ℕ) (b : Bytes) → Known form tag → good_body form tag b ≡ true → sensible form tag b ≡ true → Valid form (entry_of form (cell tag b))
unfolding good_body sensible tag_of kind_of key_of
valid_known Snapshot tag b known.origin h z = origin h
valid_known Snapshot tag b known.router_key h z = router_key h
valid_known Snapshot tag b known.aspa h z = aspa_valid b h z
valid_known Delta tag b known.announced_origin h z = valid_announce (origin h)
valid_known Delta tag b known.withdrawn_origin h z = valid_withdraw (origin h)
valid_known Delta tag b known.announced_key h z = valid_announce (router_key h)
valid_known Delta tag b known.withdrawn_key h z = valid_withdraw (router_key h)
valid_known Delta tag b known.announced_aspa h z = valid_announce (aspa_valid b h z)
valid_known Delta tag b known.withdrawn_aspa h z = valid_withdraw (aspa_valid b h z)
valid_known Delta tag b known.updated_aspa h z = update_valid b h z

pub says_valid : (form : Form) (tag : ℕ) (b : Bytes) → good_body form tag b ≡ true → sensible form tag b ≡ true → Valid form (entry_of form (cell tag b))
says_valid form tag b h z = valid_known form tag b (known.known form tag b h) h z

-- a good field of bytes is the field of what it says
back_known : (form : Form) (tag : ℕ) (b : Bytes) → AllBytes b → Known form tag → good_body form tag b ≡ true →
    cell_for form (entry_of form (cell tag b)) ≡ cell tag b
unfolding good_body tag_of kind_of key_of
back_known Snapshot tag b o known.origin h = cell_path refl (append-nil b)
back_known Snapshot tag b o known.router_key h = cell_path refl (append-nil b)
back_known Snapshot tag b o known.aspa h = cell_path refl (take-append-drop 4 b)
back_known Delta tag b o known.announced_origin h = cell_path refl (append-nil b)
back_known Delta tag b o known.withdrawn_origin h = cell_path refl (append-nil b)
back_known Delta tag b o known.announced_key h = cell_path refl (append-nil b)
back_known Delta tag b o known.withdrawn_key h = cell_path refl (append-nil b)
back_known Delta tag b o known.announced_aspa h = cell_path refl (take-append-drop 4 b)
back_known Delta tag b o known.withdrawn_aspa h = cell_path refl (take-append-drop 4 b)
back_known Delta tag b o known.updated_aspa h = cell_path refl (update_back b h o)

pub says_back : (form : Form) (tag : ℕ) (b : Bytes) → AllBytes b → good_body form tag b ≡ true →
    cell_for form (entry_of form (cell tag b)) ≡ cell tag b
says_back form tag b o h = back_known form tag b o (known.known form tag b h) h
