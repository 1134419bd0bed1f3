-- The version of the protocol that a caller asks for.
use Rattle.std.specs.Prelude.{ℕ, cond, eqb}
use Rattle.message.specs.declared.version.Version.{Version}
use Rattle.message.specs.declared.version.Version.TheVariants.{Rfc6810, Rfc8210}

-- 0 is RFC 6810, any other number RFC 8210
unfoldable pub version_of : ℕ → Version
version_of number = cond (eqb number 0) Rfc6810 Rfc8210
