-- Both questions at once: what gets neither refusal 1 nor 12.
use Rattle.std.specs.Prelude.{ℕ, List, Bool, ◌&&◌}
use Rattle.body.specs.declared.tag.Form.{Form}
use Rattle.body.specs.Aspa.{ascending, sensible_asns}
use Rattle.body.specs.Tag.{good_body, sensible}

-- providers that ascend and make sense for the customer
unfoldable pub sound_asns : ℕ → List ℕ → Bool
sound_asns customer l = ascending l && sensible_asns customer l

-- a body by its tag
unfoldable pub sound : Form → ℕ → List ℕ → Bool
sound form tag b = good_body form tag b && sensible form tag b
