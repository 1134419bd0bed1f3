use Rattle.std.proofs.Common.{rules}
use Rattle.wire.proofs.Running.{running}
use Rattle.wire.proofs.origins.put_run.Goals as goal

pub loop-version-preserved : goal.loop-version-preserved
loop-version-preserved g c = search (running, rules)

pub returns : goal.returns
returns g c = search (running, rules)
