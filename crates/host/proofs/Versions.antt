-- Laws of the version that a number asks for.
use Prim.Native.Nat.{ℕ}
use mathlib.Core.Path.{◌≡◌}
use borrow.Author.Tests.{ne_eqb}
use Rattle.message.specs.declared.version.Version.TheVariants.{Rfc6810, Rfc8210}
use Rattle.host.specs.Version.{version_of}

pub version_0 : (number : ℕ) → number ≡ 0 → Rfc6810 ≡ version_of number
unfolding version_of
version_0 number e = rw e

pub version_1 : (number : ℕ) → ¬ (number ≡ 0) → Rfc8210 ≡ version_of number
unfolding version_of
version_1 number h = rw (ne_eqb number 0 h)

pub ruleset versions = (version_0, version_1)
