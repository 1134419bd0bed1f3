use Rattle.std.proofs.Common.{rules}
use Rattle.field.proofs.Keys.{keys}
use Rattle.field.proofs.key.key_compare.Goals as goal

pub returns : goal.returns
returns c = search (keys, rules)
