-- Laws of reading a good run as changes.
use mathlib.Core.Path.{◌≡◌, sym, ap, ◌∙◌}
use mathlib.Core.List.{List, [], ◌∷◌, map}
use Rattle.order.specs.Comparison.{bytes}
use Rattle.order.specs.Map.{Item}
use Rattle.change.specs.Change.{Change}
use Rattle.change.specs.Difference.{diff}
use Rattle.change.proofs.Whole.{as_new, as_gone, diff_new, diff_gone}
use Rattle.body.specs.declared.tag.Form.{Form}
use Rattle.body.specs.declared.tag.Form.TheVariants as form
use Rattle.field.specs.Cells.{Cell, cells}
use Rattle.payload.specs.Content.{Bytes, entry_of}
use Rattle.payload.specs.Payload.{entries, items}
use Rattle.item.specs.declared.place.Part.{Part}
use Rattle.item.specs.declared.place.Act.TheVariants.{Announce, Withdraw}
use Rattle.item.specs.declared.reading.Reading.{Reading}
use Rattle.item.specs.declared.reading.Reading.TheVariants.{Withdrawn, Announced, Changes}
use Rattle.item.specs.Reading.{item_as, read_as, held_place}

-- ---- the small functions

module _ (reading : Reading) (v : Part) where
  pub held_withdrawn : reading ≡ Withdrawn → Withdraw v ≡ held_place reading v
  held_withdrawn e = rw e

  pub held_announced : reading ≡ Announced → Announce v ≡ held_place reading v
  held_announced e = rw e

  pub held_changes : reading ≡ Changes → Announce v ≡ held_place reading v
  held_changes e = rw e

pub ruleset holding = (held_withdrawn, held_announced, held_changes)

-- ---- what a run says, from its first field on

module _ (s : Bytes) where
  entries_nil : (f : Form) → cells s ≡ [] → entries f s ≡ []
  unfolding entries
  entries_nil f e = ap (map (entry_of f)) e

  pub says_nil : (reading : Reading) → cells s ≡ [] → read_as reading s ≡ []
  says_nil Withdrawn e = rw (entries_nil form.Snapshot e) (diff_gone bytes bytes [])
  says_nil Announced e = rw (entries_nil form.Snapshot e) (diff_new bytes bytes [])
  says_nil Changes e = entries_nil form.Delta e

module _ (s : Bytes) (c : Cell) (rest : Bytes) where
  entries_cons : (f : Form) → cells s ≡ c ∷ cells rest → entries f s ≡ entry_of f c ∷ entries f rest
  unfolding entries
  entries_cons f e = ap (map (entry_of f)) e

  pub says_cons : (reading : Reading) → cells s ≡ c ∷ cells rest → read_as reading s ≡ item_as reading c ∷ read_as reading rest
  says_cons Withdrawn e =
      ap (λ (A : List (Item Bytes Bytes)). diff bytes bytes A []) (entries_cons form.Snapshot e)
      ∙ diff_gone bytes bytes (entry_of form.Snapshot c ∷ items rest)
      ∙ ap (λ (D : List (Item Bytes (Change Bytes))). as_gone (entry_of form.Snapshot c) ∷ D) (sym (diff_gone bytes bytes (items rest)))
  says_cons Announced e =
      ap (λ (A : List (Item Bytes Bytes)). diff bytes bytes [] A) (entries_cons form.Snapshot e)
      ∙ diff_new bytes bytes (entry_of form.Snapshot c ∷ items rest)
      ∙ ap (λ (D : List (Item Bytes (Change Bytes))). as_new (entry_of form.Snapshot c) ∷ D) (sym (diff_new bytes bytes (items rest)))
  says_cons Changes e = entries_cons form.Delta e
