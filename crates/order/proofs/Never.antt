-- From what never holds anything follows.
use Prim.Native.Nat.{ℕ}
use mathlib.Core.Path.{◌≡◌}
use native.Mathlib.Omega.{arith}

-- where two facts clash, `cc` finds this equation
pub never : {X : Type 0} → ◌≡◌ {A = ℕ} 0 1 → X
never e = absurd (omega arith)
