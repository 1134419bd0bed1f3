use Rattle.std.proofs.Common.{rules}
use Rattle.judge.proofs.Faulting.{faulting}
use Rattle.judge.proofs.least.least_fault.Goals as goal

pub loop-c-init : goal.loop-c-init
loop-c-init c = search (faulting, rules)

pub next-batch-requires : goal.next-batch-requires
next-batch-requires c = search (faulting, rules)

pub check_batch-c-requires : goal.check_batch-c-requires
check_batch-c-requires c = search (faulting, rules)

pub returns-then-batch : goal.returns-then-batch
returns-then-batch c = search (faulting, rules)

pub loop-c-smaller : goal.loop-c-smaller
loop-c-smaller c = search (faulting, rules)

pub loop-c-preserved : goal.loop-c-preserved
loop-c-preserved c = search (faulting, rules)
