use Rattle.std.proofs.Common.{rules}
use Rattle.history.proofs.Updating.{accepting}
use Rattle.history.proofs.update.accept.Goals as goal

pub returns : goal.returns
returns c = search (accepting, rules)
