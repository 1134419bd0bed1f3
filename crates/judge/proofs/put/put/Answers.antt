use Rattle.std.proofs.Common.{rules}
use Rattle.judge.proofs.Putting.{putting}
use Rattle.judge.proofs.put.put.Goals as goal

pub loop-out-init : goal.loop-out-init
loop-out-init c = search (putting, rules)

pub next-batch-requires : goal.next-batch-requires
next-batch-requires c = search (putting, rules)

pub write_batch-w-requires : goal.write_batch-w-requires
write_batch-w-requires c = search (putting, rules)

pub returns-then-batch : goal.returns-then-batch
returns-then-batch c = search (putting, rules)

pub loop-out-smaller : goal.loop-out-smaller
loop-out-smaller c = search (putting, rules)

pub loop-out-preserved : goal.loop-out-preserved
loop-out-preserved c = search (putting, rules)
