use Rattle.std.proofs.Common.{rules}
use Rattle.verdict.proofs.Passing.{fronting}
use Rattle.verdict.proofs.pass.pass_kind.Goals as goal

pub loop-at-preserved : goal.loop-at-preserved
loop-at-preserved c = search (fronting, rules)
