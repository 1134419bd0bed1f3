use Rattle.std.proofs.Common.{rules}
use Rattle.item.proofs.Fronts.{fronts}
use Rattle.item.proofs.front.front_in.Goals as goal

pub returns-then-kind-eq3 : goal.returns-then-kind-eq3
returns-then-kind-eq3 c = search (fronts, rules)

pub returns : goal.returns
returns c = search (fronts, rules)
