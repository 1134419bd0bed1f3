use Rattle.std.proofs.Common.{rules}
use Rattle.heard.proofs.Fronts.{fronts}
use Rattle.heard.proofs.front.front_at.Goals as goal

pub returns-then-kind-eq9 : goal.returns-then-kind-eq9
returns-then-kind-eq9 c = search (fronts, rules)

pub returns : goal.returns
returns c = search (fronts, rules)
