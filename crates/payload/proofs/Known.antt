-- The tags under which a body can be good.
use Prim.Native.Nat.{ℕ}
use mathlib.Core.Path.{◌≡◌, refl}
use mathlib.Core.List.{List}
use mathlib.Core.Bool.{Bool, true, false, cond}
use lib.Dec.{eqb}
use borrow.Author.Tests.{eqb-true}
use Rattle.order.proofs.Never.{never}
use Rattle.body.specs.declared.tag.Form.{Form}
use Rattle.body.specs.declared.tag.Form.TheVariants.{Snapshot, Delta}
use Rattle.body.specs.declared.tag.Tag.{Tag}
use Rattle.body.specs.Tag.{tag_of, good_tagged, good_body}

pub data Known : Form → ℕ → Type 0 where
  origin : Known Snapshot 0x01
  router_key : Known Snapshot 0x02
  aspa : Known Snapshot 0x03
  announced_origin : Known Delta 0x11
  withdrawn_origin : Known Delta 0x12
  announced_key : Known Delta 0x21
  withdrawn_key : Known Delta 0x22
  announced_aspa : Known Delta 0x31
  withdrawn_aspa : Known Delta 0x32
  updated_aspa : Known Delta 0x33

-- no body is good under an unknown tag

-- a test for one tag more: it is that one, or the rest decides
one_of : (form : Form) (tag k : ℕ) (b : List ℕ) (this rest : Tag) → Known form k →
    (good_tagged rest b ≡ true → Known form tag) → good_tagged (cond (eqb tag k) this rest) b ≡ true → Known form tag
one_of form tag k b this rest known others = go (eqb tag k) refl
  where
    go : (t : Bool) → eqb tag k ≡ t → good_tagged (cond t this rest) b ≡ true → Known form tag
    go true e h = rw (eqb-true tag k e) known
    go false e h = others h

pub known : (form : Form) (tag : ℕ) (b : List ℕ) → good_body form tag b ≡ true → Known form tag
unfolding good_body tag_of
known Snapshot tag b =
    one_of Snapshot tag 0x01 b _ _ origin
    (one_of Snapshot tag 0x02 b _ _ router_key (one_of Snapshot tag 0x03 b _ _ aspa (λ h. never cc)))
known Delta tag b =
    one_of Delta tag 0x11 b _ _ announced_origin
    (one_of Delta tag 0x12 b _ _ withdrawn_origin
    (one_of Delta tag 0x21 b _ _ announced_key
    (one_of Delta tag 0x22 b _ _ withdrawn_key
    (one_of Delta tag 0x31 b _ _ announced_aspa
    (one_of Delta tag 0x32 b _ _ withdrawn_aspa (one_of Delta tag 0x33 b _ _ updated_aspa (λ h. never cc)))))))
