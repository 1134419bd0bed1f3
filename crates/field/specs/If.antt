-- A test that may say no where the answer is yes.
use Rattle.std.specs.Prelude.{◌≡◌, Bool, true}

-- a yes is right, a no decides nothing
pub record If (r : Bool) (P : Type 0) : Type 0 where
  pub holds : r ≡ true → P
