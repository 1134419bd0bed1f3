use Rattle.std.proofs.Common.{rules}
use Rattle.sorting.proofs.Settling.{settling}
use Rattle.sorting.proofs.settle.settle.Goals as goal

pub returns-then-not-is_before_by : goal.returns-then-not-is_before_by
returns-then-not-is_before_by c = search (settling, rules)

pub loop-j-preserved : goal.loop-j-preserved
loop-j-preserved c = search (settling, rules)

pub returns : goal.returns
returns c = search (settling, rules)
