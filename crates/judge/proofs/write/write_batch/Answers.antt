use Rattle.std.proofs.Common.{rules}
use Rattle.judge.proofs.Writing.{writing}
use Rattle.judge.proofs.write.write_batch.Goals as goal

pub write_one-w-requires : goal.write_one-w-requires
write_one-w-requires c = search (writing, rules)

pub loop-x-preserved : goal.loop-x-preserved
loop-x-preserved c = search (writing, rules)
