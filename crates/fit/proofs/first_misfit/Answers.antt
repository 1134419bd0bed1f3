use Rattle.std.proofs.Common.{rules}
use Rattle.fit.proofs.Fitting.{fitting}
use Rattle.fit.proofs.first_misfit.Goals as goal

pub returns-in-Left : goal.returns-in-Left
returns-in-Left c = search (fitting, rules)
