-- Tags: the kind of a field's item, what a delta does with it, and the rules of its body.
use Rattle.std.specs.Prelude.{ℕ, List, Bool, true, false, cond, eqb}
use Rattle.body.specs.declared.tag.Form.{Form}
use Rattle.body.specs.declared.tag.Form.TheVariants.{Snapshot, Delta}
use Rattle.body.specs.declared.tag.Action.{Action}
use Rattle.body.specs.declared.tag.Action.TheVariants.{Hold, Announce, Withdraw, Update}
use Rattle.body.specs.declared.tag.Tag.{Tag}
use Rattle.body.specs.declared.tag.Tag.TheVariants.{Unknown, Origin, RouterKey, Aspa}
use Rattle.body.specs.Origin.{good_origin}
use Rattle.body.specs.RouterKey.{good_router_key}
use Rattle.body.specs.Aspa.{good_aspa, good_update, sensible_aspa, sensible_update}

-- the three tags of a snapshot
abbrev pub item_tag : ℕ → Tag
item_tag tag =
    cond (eqb tag 0x01) (Origin Hold)
    (cond (eqb tag 0x02) (RouterKey Hold)
    (cond (eqb tag 0x03) (Aspa Hold) Unknown))

-- the seven tags of a delta
abbrev pub change_tag : ℕ → Tag
change_tag tag =
    cond (eqb tag 0x11) (Origin Announce)
    (cond (eqb tag 0x12) (Origin Withdraw)
    (cond (eqb tag 0x21) (RouterKey Announce)
    (cond (eqb tag 0x22) (RouterKey Withdraw)
    (cond (eqb tag 0x31) (Aspa Announce)
    (cond (eqb tag 0x32) (Aspa Withdraw)
    (cond (eqb tag 0x33) (Aspa Update) Unknown))))))

-- what a tag says
unfoldable pub tag_of : Form → ℕ → Tag
tag_of Snapshot tag = item_tag tag
tag_of Delta tag = change_tag tag

-- the number of a kind: the snapshot's tag, and the first hex digit of the delta's
abbrev pub kind_number : Tag → ℕ
kind_number Unknown = 0
kind_number (Origin action) = 1
kind_number (RouterKey action) = 2
kind_number (Aspa action) = 3

-- what fields are ordered by first
unfoldable pub kind_of : Form → ℕ → ℕ
kind_of form tag = kind_number (tag_of form tag)

-- the rule of an ASPA's body
abbrev pub good_aspa_body : Action → List ℕ → Bool
good_aspa_body Hold b = good_aspa b
good_aspa_body Announce b = good_aspa b
good_aspa_body Withdraw b = good_aspa b
good_aspa_body Update b = good_update b

-- the rule of a body by what its tag says; no body is good under an unknown tag
abbrev pub good_tagged : Tag → List ℕ → Bool
good_tagged Unknown b = false
good_tagged (Origin action) b = good_origin b
good_tagged (RouterKey action) b = good_router_key b
good_tagged (Aspa action) b = good_aspa_body action b

-- the rule of a body by its tag
unfoldable pub good_body : Form → ℕ → List ℕ → Bool
good_body form tag b = good_tagged (tag_of form tag) b

-- whether an ASPA's body makes sense
abbrev pub sensible_aspa_body : Action → List ℕ → Bool
sensible_aspa_body Hold b = sensible_aspa b
sensible_aspa_body Announce b = sensible_aspa b
sensible_aspa_body Withdraw b = sensible_aspa b
sensible_aspa_body Update b = sensible_update b

-- whether a body makes sense, by what its tag says: of origins and router keys each does
abbrev pub sensible_tagged : Tag → List ℕ → Bool
sensible_tagged Unknown b = true
sensible_tagged (Origin action) b = true
sensible_tagged (RouterKey action) b = true
sensible_tagged (Aspa action) b = sensible_aspa_body action b

-- whether a body makes sense, by its tag
unfoldable pub sensible : Form → ℕ → List ℕ → Bool
sensible form tag b = sensible_tagged (tag_of form tag) b
