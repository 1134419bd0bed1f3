use Rattle.std.proofs.Common.{rules}
use Rattle.history.proofs.Pushing.{dropping}
use Rattle.history.proofs.push.drops.Goals as goal

pub returns-then-history : goal.returns-then-history
returns-then-history c = search (dropping, rules)

pub returns : goal.returns
returns c = search (dropping, rules)
