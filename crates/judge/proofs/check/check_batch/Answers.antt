use Rattle.std.proofs.Common.{rules}
use Rattle.judge.proofs.Checking.{checking}
use Rattle.judge.proofs.check.check_batch.Goals as goal

pub check_one-c-requires : goal.check_one-c-requires
check_one-c-requires c = search (checking, rules)

pub loop-x-preserved : goal.loop-x-preserved
loop-x-preserved c = search (checking, rules)
