use Rattle.std.proofs.Common.{rules}
use Rattle.walk.proofs.Walking.{passed}
use Rattle.walk.proofs.walk.put_step.Goals as goal

pub returns : goal.returns
returns c = search (passed, rules)
