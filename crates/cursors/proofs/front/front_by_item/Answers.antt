use Rattle.std.proofs.Common.{rules}
use Rattle.cursors.proofs.Fronting.{fronting}
use Rattle.cursors.proofs.front.front_by_item.Goals as goal

pub returns : goal.returns
returns c = search (fronting, rules)
