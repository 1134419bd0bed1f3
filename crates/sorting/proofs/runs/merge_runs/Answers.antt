use Rattle.std.proofs.Common.{rules}
use Rattle.sorting.proofs.Running.{doubling}
use Rattle.sorting.proofs.runs.merge_runs.Goals as goal

pub merge-requires : goal.merge-requires
merge-requires c = search (doubling, rules)

pub loop-a-preserved : goal.loop-a-preserved
loop-a-preserved c = search (doubling, rules)

pub returns : goal.returns
returns c = search (doubling, rules)

pub returns-2 : goal.returns-2
returns-2 c = search (doubling, rules)
