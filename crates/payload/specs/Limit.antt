-- The length limits of an input, in bytes.
use Rattle.std.specs.Prelude.{ℕ}
use Rattle.body.specs.declared.tag.Form.{Form}
use Rattle.body.specs.declared.tag.Form.TheVariants.{Snapshot, Delta}

abbrev pub limit : Form → ℕ
limit Snapshot = 16_777_216
limit Delta = 33_554_432
