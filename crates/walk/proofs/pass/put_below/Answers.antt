use Rattle.std.proofs.Common.{rules}
use Rattle.walk.proofs.Passing.{below}
use Rattle.walk.proofs.pass.put_below.Goals as goal

pub returns : goal.returns
returns c = search (below, rules)
