use Rattle.std.proofs.Common.{rules}
use Rattle.history.proofs.Updating.{extending}
use Rattle.history.proofs.update.extend.Goals as goal

pub grown-state-requires : goal.grown-state-requires
grown-state-requires c = search (extending, rules)

pub returns : goal.returns
returns c = search (extending, rules)
