use Rattle.std.proofs.Common.{rules}
use Rattle.batch.proofs.Surveying.{surveying}
use Rattle.batch.proofs.survey.chunks.Goals as goal

pub loop-c-init : goal.loop-c-init
loop-c-init c = search (surveying, rules)

pub loop-c-preserved : goal.loop-c-preserved
loop-c-preserved c = search (surveying, rules)
