use Rattle.std.proofs.Common.{rules}
use Rattle.merged.proofs.Putting.{stepping}
use Rattle.merged.proofs.put.put_step.Goals as goal

pub returns : goal.returns
returns c = search (stepping, rules)
