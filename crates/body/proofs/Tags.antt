-- Tags: each arm of the matches over them.
use Prim.Native.Nat.{ℕ}
use mathlib.Core.Path.{◌≡◌, refl, ◌∙◌}
use mathlib.Core.List.{List}
use mathlib.Core.Bool.{Bool, true, false, ◌&&◌}
use Rattle.body.specs.declared.tag.Form.{Form}
use Rattle.body.specs.declared.tag.Form.TheVariants.{Snapshot, Delta}
use Rattle.body.specs.declared.tag.Action.{Action}
use Rattle.body.specs.declared.tag.Action.TheVariants.{Hold, Announce, Withdraw, Update}
use Rattle.body.specs.declared.tag.Tag.{Tag}
use Rattle.body.specs.declared.tag.Tag.TheVariants.{Unknown, Origin, RouterKey, Aspa}
use Rattle.body.specs.Origin.{good_origin}
use Rattle.body.specs.RouterKey.{good_router_key}
use Rattle.body.specs.Aspa.{good_aspa, good_update, sensible_aspa, sensible_update}
use Rattle.body.specs.Tag.{item_tag, change_tag, tag_of, kind_of, good_aspa_body, good_body, sensible_aspa_body, sensible}
use Rattle.body.specs.Sound.{sound}

module _ (form : Form) (tag : ℕ) (t : Tag) where
  pub tag_item : form ≡ Snapshot → t ≡ item_tag tag → t ≡ tag_of form tag
  unfolding tag_of
  tag_item e q = rw (e, q)

  pub tag_change : form ≡ Delta → t ≡ change_tag tag → t ≡ tag_of form tag
  unfolding tag_of
  tag_change e q = rw (e, q)

module _ (form : Form) (tag : ℕ) (t : Tag) (e : t ≡ tag_of form tag) where
  pub kind_unknown : t ≡ Unknown → 0 ≡ kind_of form tag
  unfolding kind_of
  kind_unknown d = rw (← e, d)

  module _ (action : Action) where
    pub kind_origin : t ≡ Origin action → 1 ≡ kind_of form tag
    unfolding kind_of
    kind_origin d = rw (← e, d)

    pub kind_key : t ≡ RouterKey action → 2 ≡ kind_of form tag
    unfolding kind_of
    kind_key d = rw (← e, d)

    pub kind_aspa : t ≡ Aspa action → 3 ≡ kind_of form tag
    unfolding kind_of
    kind_aspa d = rw (← e, d)

module _ (action : Action) (b : List ℕ) (r : Bool) where
  pub aspa_held : action ≡ Hold → r ≡ good_aspa b → r ≡ good_aspa_body action b
  aspa_held d q = rw (d, q)

  pub aspa_announced : action ≡ Announce → r ≡ good_aspa b → r ≡ good_aspa_body action b
  aspa_announced d q = rw (d, q)

  pub aspa_withdrawn : action ≡ Withdraw → r ≡ good_aspa b → r ≡ good_aspa_body action b
  aspa_withdrawn d q = rw (d, q)

  pub aspa_updated : action ≡ Update → r ≡ good_update b → r ≡ good_aspa_body action b
  aspa_updated d q = rw (d, q)

pub ruleset tags = (tag_item, tag_change, kind_unknown, kind_origin, kind_key, kind_aspa, aspa_held, aspa_announced, aspa_withdrawn, aspa_updated)

-- ---- bodies that make sense too

alone : (g : Bool) → g ≡ g && true
alone true = refl
alone false = refl

module _ (form : Form) (tag : ℕ) (t : Tag) (e : t ≡ tag_of form tag) (b : List ℕ) where
  pub sound_unknown : t ≡ Unknown → false ≡ sound form tag b
  unfolding sound good_body
  sound_unknown d = rw (← e, d)

  module _ (action : Action) (r : Bool) where
    pub sound_origin : t ≡ Origin action → r ≡ good_origin b → r ≡ sound form tag b
    unfolding sound good_body sensible
    sound_origin d q = rw (← e, d) (q ∙ alone (good_origin b))

    pub sound_key : t ≡ RouterKey action → r ≡ good_router_key b → r ≡ sound form tag b
    unfolding sound good_body sensible
    sound_key d q = rw (← e, d) (q ∙ alone (good_router_key b))

    pub sound_aspa : t ≡ Aspa action → r ≡ good_aspa_body action b && sensible_aspa_body action b → r ≡ sound form tag b
    unfolding sound good_body sensible
    sound_aspa d q = rw (← e, d) q

module _ (action : Action) (b : List ℕ) (r : Bool) where
  pub sound_held : action ≡ Hold → r ≡ good_aspa b && sensible_aspa b → r ≡ good_aspa_body action b && sensible_aspa_body action b
  sound_held d q = rw d q

  pub sound_announced : action ≡ Announce → r ≡ good_aspa b && sensible_aspa b → r ≡ good_aspa_body action b && sensible_aspa_body action b
  sound_announced d q = rw d q

  pub sound_withdrawn : action ≡ Withdraw → r ≡ good_aspa b && sensible_aspa b → r ≡ good_aspa_body action b && sensible_aspa_body action b
  sound_withdrawn d q = rw d q

  pub sound_updated : action ≡ Update → r ≡ good_update b && sensible_update b → r ≡ good_aspa_body action b && sensible_aspa_body action b
  sound_updated d q = rw d q

pub ruleset sound_tags = (sound_unknown, sound_origin, sound_key, sound_aspa, sound_held, sound_announced, sound_withdrawn, sound_updated)
