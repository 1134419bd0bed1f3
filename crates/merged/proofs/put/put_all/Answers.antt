use Rattle.std.proofs.Common.{rules}
use Rattle.merged.proofs.Putting.{putting}
use Rattle.merged.proofs.put.put_all.Goals as goal

pub loop-sum-preserved : goal.loop-sum-preserved
loop-sum-preserved c = search (putting, rules)

pub returns : goal.returns
returns c = search (putting, rules)
