-- Laws of a walk over the same runs.
use mathlib.Core.Path.{◌≡◌, refl, ◌∙◌}
use Rattle.cursors.specs.declared.runs.Walk.{Walk}
use Rattle.cursors.specs.Cursor.{left_of, items_left}
use Rattle.cursors.specs.Walk.{Kept, remains, items_of}

pub kept_self : (w : Walk) → Kept w w
kept_self w = record { store = refl; ends = refl; from = refl; n = refl }

pub kept_both : (w₀ w w' : Walk) → Kept w₀ w → Kept w w' → Kept w₀ w'
kept_both w₀ w w' j k = record { store = k.store ∙ j.store; ends = k.ends ∙ j.ends; from = k.from ∙ j.from; n = k.n ∙ j.n }

-- what the runs have left where its cursors stand now
pub kept_remains : (w₀ w : Walk) → Kept w₀ w → left_of w₀.store.now w.at w₀.ends w₀.from w₀.n ≡ remains w
kept_remains w₀ w k = rw (k.store, k.ends, k.from, k.n) refl

pub kept_items : (w₀ w : Walk) → Kept w₀ w → items_left w₀.store.now w.at w₀.ends w₀.from w₀.n ≡ items_of w
kept_items w₀ w k = rw (k.store, k.ends, k.from, k.n) refl
