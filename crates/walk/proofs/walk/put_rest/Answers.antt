use Rattle.std.proofs.Common.{rules}
use Rattle.walk.proofs.Walking.{resting}
use Rattle.walk.proofs.walk.put_rest.Goals as goal

pub loop-x-preserved : goal.loop-x-preserved
loop-x-preserved c = search (resting, rules)

pub returns : goal.returns
returns c = search (resting, rules)
