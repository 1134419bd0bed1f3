use Rattle.std.proofs.Common.{rules}
use Rattle.walk.proofs.OriginTurns.{merging}
use Rattle.walk.proofs.origins.put_origins.Goals as goal

pub loop-next-init : goal.loop-next-init
loop-next-init c = search (merging, rules)

pub loop-next-preserved : goal.loop-next-preserved
loop-next-preserved c = search (merging, rules)
