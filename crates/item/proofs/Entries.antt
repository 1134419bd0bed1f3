-- Laws of read_at: what stands at a place of a good run.
use Prim.Native.Nat.{ℕ, ◌≤◌}
use mathlib.Core.Path.{◌≡◌, refl, sym, ap, ◌∙◌}
use mathlib.Core.List.{◌∷◌}
use native.Mathlib.Omega.{arith}
use lib.ListN.{length, drop}
use Rattle.order.specs.Map.{Item}
use Rattle.change.specs.Change.{Change}
use Rattle.number.specs.Bytes.{part}
use Rattle.body.specs.declared.tag.Form.{Form}
use Rattle.body.specs.declared.tag.Action.{Action}
use Rattle.body.specs.declared.tag.Tag.{Tag}
use Rattle.body.specs.Tag.{tag_of, kind_of}
use Rattle.field.specs.declared.head.Field.{Field}
use Rattle.field.specs.declared.head.Field.TheVariants.{End, Cut, Whole}
use Rattle.field.specs.declared.key.Key.{Key}
use Rattle.field.specs.Key.{key_of}
use Rattle.field.specs.Cells.{Cell}
use Rattle.field.specs.Places.{key_in, key_place}
use Rattle.field.specs.Head.{field_at}
use Rattle.field.proofs.Fields.{whole_at, body_ordered, body_within, field_long}
use Rattle.field.proofs.Keys.{key_fits, key_in_lem}
use Rattle.field.proofs.Walk.{good_end, good_cells, good_cut, good_body_lem, good_next}
use Rattle.payload.specs.Content.{Bytes, action_of}
use Rattle.item.specs.declared.place.Act.{Act}
use Rattle.item.specs.declared.reading.Reading.{Reading}
use Rattle.item.specs.declared.reading.Reading.TheVariants.{Withdrawn, Announced, Changes}
use Rattle.item.specs.Place.{change_in}
use Rattle.item.specs.Reading.{item_as, form_of, read_as, act_place, Splits, Ready, Reads}
use Rattle.item.proofs.Readings.{says_nil, says_cons}
use Rattle.item.proofs.Places.{body_length, Entered, entered}
use Rattle.std.specs.Prelude.{None, Some}

-- the key of a field's item is the key of its cell
key_as : (reading : Reading) (c : Cell) → (item_as reading c).key ≡ key_of (kind_of (form_of reading) c.tag) c.body
key_as Withdrawn c = refl
key_as Announced c = refl
key_as Changes c = refl

item_path : {x y : Item Bytes (Change Bytes)} → x.key ≡ y.key → x.val ≡ y.val → x ≡ y
item_path p q = λ i. record { key = p i; val = q i }

module _ (reading : Reading) (s : Bytes) (at : ℕ) (g : Ready reading s at) (r : Field) (f : r ≡ field_at s at) where
  pub read_end : r ≡ End → Reads reading s at None
  read_end e = record { fits = good_end s at r f e; is = says_nil (drop at s) reading (good_end s at r f e) }

  pub read_cut : r ≡ Cut → Reads reading s at None
  read_cut e = absurd (good_cut s at r f (form_of reading) g.good e)

  module _ (tag from to : ℕ) (e : r ≡ Whole tag from to) where
    o : from ≤ to
    o = body_ordered s at r f tag from to e

    w : to ≤ length s
    w = body_within s at r f tag from to e

    said : Entered s from to o w reading tag
    said = entered s from to o w reading tag (good_body_lem s at r f (form_of reading) g.good tag from to e)

    module _ (fm : Form) (ef : fm ≡ form_of reading) (k : ℕ) (ek : k ≡ kind_of fm tag) (key : Key) (ey : key ≡ key_place k from to)
        (t : Tag) (et : t ≡ tag_of fm tag) (a : Action) (ea : a ≡ action_of t) where
      kind_is : k ≡ kind_of (form_of reading) tag
      kind_is = ek ∙ ap (λ (x : Form). kind_of x tag) ef

      action_is : a ≡ action_of (tag_of (form_of reading) tag)
      action_is = ea ∙ ap action_of et ∙ ap (λ (x : Form). action_of (tag_of x tag)) ef

      place_is : key ≡ key_place (kind_of (form_of reading) tag) from to
      place_is = ey ∙ ap (λ (x : ℕ). key_place x from to) kind_is

      pub read_splits : Splits a s (record { from = key.to; to = to })
      read_splits = rw (action_is, place_is) said.splits

      pub read_one : (act : Act) → act ≡ act_place reading a s (record { from = key.to; to = to }) →
          Reads reading s at (Some (record { key = key; act = act; next = to }))
      read_one act q =
          let c : Cell = record { tag = tag; body = part s from to } in
          let act_is : act ≡ act_place reading (action_of (tag_of (form_of reading) tag)) s (record { from = (key_place (kind_of (form_of reading) tag) from to).to; to = to })
          = q ∙ rw (action_is, place_is) in
          let key_is : key_in s key ≡ (item_as reading c).key
          = key_in_lem s (kind_of (form_of reading) tag) from to o w key place_is ∙ sym (key_as reading c) in
          let change-is : change_in s s act ≡ (item_as reading c).val = ap (change_in s s) act_is ∙ said.is in
          record {
            fits = record {
              key = record {
                fits = key_fits s (kind_of (form_of reading) tag) from to o w key place_is;
                kind = rw place_is said.kind;
                short = rw place_is said.short;
              };
              act = rw act_is said.fits;
              field = record {
                cell = c;
                front = good_cells s at r f tag from to e;
                next = let b = o in omega (arith, body_length s from to o w, (whole_at s at r f tag from to e).start);
                says = item_path key_is change-is;
              };
              ahead = omega (arith, field_long s at r f tag from to e);
              ready = record { good = good_next s at r f (form_of reading) g.good tag from to e; within = w };
            };
            is = says_cons (drop at s) c (drop to s) reading (good_cells s at r f tag from to e)
                ∙ ap (λ (x : Item Bytes (Change Bytes)). x ∷ read_as reading (drop to s)) (sym (item_path key_is change-is));
          }

pub ruleset reading = (body_ordered, read_end, read_cut, read_splits, read_one)
