use Rattle.std.proofs.Common.{rules}
use Rattle.fit.proofs.Fitting.{past}
use Rattle.fit.proofs.pass_below.Goals as goal

pub returns : goal.returns
returns c = search (past, rules)
