use Rattle.std.proofs.Common.{rules}
use Rattle.batch.proofs.Surveying.{filling}
use Rattle.batch.proofs.survey.fill.Goals as goal

pub loop-at-init : goal.loop-at-init
loop-at-init c = search (filling, rules)

pub size_at-size-requires : goal.size_at-size-requires
size_at-size-requires c = search (filling, rules)

pub loop-at-preserved : goal.loop-at-preserved
loop-at-preserved c = search (filling, rules)
