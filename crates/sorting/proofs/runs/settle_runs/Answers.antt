use Rattle.std.proofs.Common.{rules}
use Rattle.sorting.proofs.Running.{settles_runs}
use Rattle.sorting.proofs.runs.settle_runs.Goals as goal

pub loop-a-preserved : goal.loop-a-preserved
loop-a-preserved c = search (settles_runs, rules)

pub returns : goal.returns
returns c = search (settles_runs, rules)

pub returns-2 : goal.returns-2
returns-2 c = search (settles_runs, rules)
