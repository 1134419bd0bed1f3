use Rattle.std.proofs.Common.{rules}
use Rattle.history.proofs.Asking.{serving}
use Rattle.history.proofs.query.serve.Goals as goal

pub returns-in_default : goal.returns-in_default
returns-in_default c = search (serving, rules)

pub returns : goal.returns
returns c = search (serving, rules)
