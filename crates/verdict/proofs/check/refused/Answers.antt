use Rattle.std.proofs.Common.{rules}
use Rattle.verdict.proofs.Judging.{refusing}
use Rattle.verdict.proofs.check.refused.Goals as goal

pub returns-in-Unknown : goal.returns-in-Unknown
returns-in-Unknown c = search (refusing, rules)

pub returns-in-Aspa : goal.returns-in-Aspa
returns-in-Aspa c = search (refusing, rules)
