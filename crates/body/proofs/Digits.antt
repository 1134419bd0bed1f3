-- Kinds and tags: what fields are ordered by first is the tag in a snapshot, and the tag's first hex digit in a delta.
use Prim.Native.Nat.{ℕ, ◌/◌}
use mathlib.Core.Path.{◌≡◌, refl, ap, sym, ◌∙◌}
use mathlib.Core.List.{List}
use mathlib.Core.Bool.{Bool, true, false, cond, false≢true}
use borrow.Author.Tests.{eqb-true}
use lib.Dec.{eqb}
use Rattle.body.specs.declared.tag.Form.{Form}
use Rattle.body.specs.declared.tag.Form.TheVariants.{Snapshot, Delta}
use Rattle.body.specs.declared.tag.Action.TheVariants.{Hold, Announce, Withdraw, Update}
use Rattle.body.specs.declared.tag.Tag.{Tag}
use Rattle.body.specs.declared.tag.Tag.TheVariants.{Unknown, Origin, RouterKey, Aspa}
use Rattle.body.specs.Tag.{tag_of, kind_number, kind_of, good_body}

-- under a good body the tag is known
pub known : (form : Form) (tag : ℕ) (b : List ℕ) → good_body form tag b ≡ true → tag_of form tag ≡ Unknown → ⊥
unfolding good_body
known form tag b g e = false≢true (rw e at g)

-- one row of a table of tags, where each number is f of its tag
module _ (f : ℕ → ℕ) (tag : ℕ) where
  abbrev Numbered : Tag → Type 0
  Numbered t = (t ≡ Unknown → ⊥) → kind_number t ≡ f tag

  row : (k : ℕ) (t rest : Tag) → kind_number t ≡ f k → Numbered rest → Numbered (cond (eqb tag k) t rest)
  row k t rest e r = go (eqb tag k) refl
    where
      go : (b : Bool) → eqb tag k ≡ b → Numbered (cond b t rest)
      go true q u = e ∙ ap f (sym (eqb-true tag k q))
      go false q u = r u

  last : Numbered Unknown
  last u = absurd (u refl)

pub snapshot_kind : (tag : ℕ) (b : List ℕ) → good_body Snapshot tag b ≡ true → kind_of Snapshot tag ≡ tag
unfolding kind_of tag_of
snapshot_kind tag b g =
    let f : ℕ → ℕ = λ n. n in
    row f tag 0x01 (Origin Hold) _ refl
    (row f tag 0x02 (RouterKey Hold) _ refl
    (row f tag 0x03 (Aspa Hold) _ refl (last f tag)))
    (known Snapshot tag b g)

pub delta_kind : (tag : ℕ) (b : List ℕ) → good_body Delta tag b ≡ true → kind_of Delta tag ≡ tag / 16
unfolding kind_of tag_of
delta_kind tag b g =
    let f : ℕ → ℕ = λ n. n / 16 in
    row f tag 0x11 (Origin Announce) _ refl
    (row f tag 0x12 (Origin Withdraw) _ refl
    (row f tag 0x21 (RouterKey Announce) _ refl
    (row f tag 0x22 (RouterKey Withdraw) _ refl
    (row f tag 0x31 (Aspa Announce) _ refl
    (row f tag 0x32 (Aspa Withdraw) _ refl
    (row f tag 0x33 (Aspa Update) _ refl (last f tag)))))))
    (known Delta tag b g)
