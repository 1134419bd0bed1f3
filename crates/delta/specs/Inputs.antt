-- Two good inputs within their limits.
use Rattle.std.specs.Prelude.{◌≤◌, ◌≡◌, length, Ok}
use Rattle.body.specs.declared.tag.Form.{Form}
use Rattle.field.specs.Verdict.{verdict}
use Rattle.payload.specs.Content.{Bytes}
use Rattle.payload.specs.Limit.{limit}

pub record Inputs (f : Form) (a : Bytes) (g : Form) (b : Bytes) : Type 0 where
  pub short_a : length a ≤ limit f
  pub short_b : length b ≤ limit g
  pub fine_a : verdict f a ≡ Ok tt
  pub fine_b : verdict g b ≡ Ok tt
