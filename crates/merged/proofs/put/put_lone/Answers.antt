use Rattle.std.proofs.Common.{rules}
use Rattle.merged.proofs.Putting.{steps}
use Rattle.merged.proofs.put.put_lone.Goals as goal

pub returns : goal.returns
returns c = search (steps, rules)
