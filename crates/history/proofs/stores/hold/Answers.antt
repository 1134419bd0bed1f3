use Rattle.std.proofs.Common.{rules}
use Rattle.history.proofs.Laying.{holding}
use Rattle.history.proofs.stores.hold.Goals as goal

pub returns : goal.returns
returns c = search (holding, rules)
