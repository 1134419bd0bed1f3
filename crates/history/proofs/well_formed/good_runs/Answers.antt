use Rattle.std.proofs.Common.{rules}
use Rattle.history.proofs.Forming.{checking}
use Rattle.history.proofs.well_formed.good_runs.Goals as goal

pub returns-then-deltas-from : goal.returns-then-deltas-from
returns-then-deltas-from c = search (checking, rules)

pub returns-then-not-is_good : goal.returns-then-not-is_good
returns-then-not-is_good c = search (checking, rules)

pub loop-k-preserved : goal.loop-k-preserved
loop-k-preserved c = search (checking, rules)

pub returns : goal.returns
returns c = search (checking, rules)
