use Rattle.std.proofs.Common.{rules}
use Rattle.batch.proofs.Collecting.{walking}
use Rattle.batch.proofs.collect.walk.Goals as goal

pub loop-at-init : goal.loop-at-init
loop-at-init c = search (walking, rules)

pub is_passed-requires : goal.is_passed-requires
is_passed-requires c = search (walking, rules)

pub loop-at-preserved-then-is_passed : goal.loop-at-preserved-then-is_passed
loop-at-preserved-then-is_passed c = search (walking, rules)

pub take_in-p-requires : goal.take_in-p-requires
take_in-p-requires c = search (walking, rules)

pub loop-at-preserved : goal.loop-at-preserved
loop-at-preserved c = search (walking, rules)

pub returns : goal.returns
returns c = search (walking, rules)
