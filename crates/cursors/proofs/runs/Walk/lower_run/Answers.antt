use Rattle.std.proofs.Common.{rules}
use Rattle.cursors.proofs.Ranking.{lowering}
use Rattle.cursors.proofs.runs.Walk.lower_run.Goals as goal

pub returns-in-Equal : goal.returns-in-Equal
returns-in-Equal c = search (lowering, rules)
