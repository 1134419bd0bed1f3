use Rattle.std.proofs.Common.{rules}
use Rattle.batch.proofs.Collecting.{halving}
use Rattle.batch.proofs.collect.walk_halves.Goals as goal

pub loop-a-init : goal.loop-a-init
loop-a-init c = search (halving, rules)

pub take_in-p-requires : goal.take_in-p-requires
take_in-p-requires c = search (halving, rules)

pub loop-a-preserved-then-over-b : goal.loop-a-preserved-then-over-b
loop-a-preserved-then-over-b c = search (halving, rules)

pub take_two-p-requires : goal.take_two-p-requires
take_two-p-requires c = search (halving, rules)

pub loop-a-preserved : goal.loop-a-preserved
loop-a-preserved c = search (halving, rules)

pub walk-requires : goal.walk-requires
walk-requires c = search (halving, rules)
