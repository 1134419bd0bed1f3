use Rattle.std.proofs.Common.{rules}
use Rattle.sorting.proofs.Joining.{ascending}
use Rattle.sorting.proofs.sort.ascends.Goals as goal

pub loop-i-preserved : goal.loop-i-preserved
loop-i-preserved c = search (ascending, rules)

pub returns : goal.returns
returns c = search (ascending, rules)
