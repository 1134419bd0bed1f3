use Rattle.std.proofs.Common.{rules}
use Rattle.batch.proofs.Collecting.{collecting}
use Rattle.batch.proofs.collect.collect.Goals as goal

pub loop-c-init : goal.loop-c-init
loop-c-init c = search (collecting, rules)

pub walk_chunk-p-requires : goal.walk_chunk-p-requires
walk_chunk-p-requires c = search (collecting, rules)

pub loop-c-preserved : goal.loop-c-preserved
loop-c-preserved c = search (collecting, rules)

pub walk-requires : goal.walk-requires
walk-requires c = search (collecting, rules)

pub returns : goal.returns
returns c = search (collecting, rules)
