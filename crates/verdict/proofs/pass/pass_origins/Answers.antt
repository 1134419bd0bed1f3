use Rattle.std.proofs.Common.{rules}
use Rattle.verdict.proofs.Passing.{passing}
use Rattle.verdict.proofs.pass.pass_origins.Goals as goal

pub loop-at-preserved : goal.loop-at-preserved
loop-at-preserved c = search (passing, rules)
