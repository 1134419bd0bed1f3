use Rattle.std.proofs.Common.{rules}
use Rattle.history.proofs.Updating.{comparing}
use Rattle.history.proofs.update.difference.Goals as goal

pub measure-requires : goal.measure-requires
measure-requires c = search (comparing, rules)

pub returns : goal.returns
returns c = search (comparing, rules)
