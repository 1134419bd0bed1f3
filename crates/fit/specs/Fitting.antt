-- How far the search for the first misfit has come.
use Rattle.std.specs.Prelude.{ℕ, ◌+◌, ◌≤◌, ◌<◌, ◌≡◌, [], Bool, true, false, drop, Some}
use Rattle.field.specs.Cells.{cells}
use Rattle.payload.specs.Content.{Bytes}
use Rattle.payload.specs.Payload.{items, changes}
use Rattle.item.specs.declared.place.Part.{Part}
use Rattle.item.specs.declared.place.Act.{Act}
use Rattle.item.specs.declared.place.Act.TheVariants as act
use Rattle.item.specs.declared.reading.Reading.TheVariants.{Announced, Changes}
use Rattle.item.specs.Reading.{Ready}
use Rattle.fit.specs.declared.FitStep.{FitStep}
use Rattle.fit.specs.declared.FitStep.TheVariants as step
use Rattle.fit.specs.declared.FitStep.TheVariants.{Over, On}
use Rattle.turn.specs.declared.turn.Side.TheVariants as side
use Rattle.fit.specs.Fit.{misfit}

-- a change that fits where nothing is held, by its places
abbrev pub absent_place : Act → Bool
absent_place (act.Announce n) = true
absent_place (act.Withdraw p) = false
absent_place (act.Update p n) = false

-- where the value of an announcement lies
abbrev pub value_place : Act → Part
value_place (act.Announce n) = n
value_place (act.Withdraw p) = p
value_place (act.Update p n) = n

-- both sides are good from here on
pub record Pairs (s : Bytes) (i : ℕ) (d : Bytes) (j : ℕ) : Type 0 where
  pub ready_s : Ready Announced s i
  pub ready_d : Ready Changes d j

-- from i and j on the first misfit is the one from p and q on
pub record Onward (s : Bytes) (i : ℕ) (d : Bytes) (j p q : ℕ) : Type 0 where
  pub pairs : Pairs s p d q
  pub same : misfit (items (drop i s)) j (cells (drop j d)) ≡ misfit (items (drop p s)) q (cells (drop q d))
  pub on_s : i ≤ p
  pub on_d : j ≤ q

-- what the snapshot has from i up to r does not matter to the delta from j on
abbrev pub Past : Bytes → ℕ → Bytes → ℕ → ℕ → Type 0
Past s i d j r = Onward s i d j r j

module _ (s : Bytes) (i : ℕ) (d : Bytes) (j : ℕ) where
  abbrev pub FitStepMeans : FitStep → Type 0
  FitStepMeans (Over side.Left) = changes (drop j d) ≡ []
  FitStepMeans (Over side.Right) = items (drop i s) ≡ []
  FitStepMeans step.Misfit = misfit (items (drop i s)) j (cells (drop j d)) ≡ Some j
  FitStepMeans (On p q) = Onward s i d j p q × (i + j < p + q)

  pub record FitStepIs (r : FitStep) : Type 0 where
    pub is : FitStepMeans r
