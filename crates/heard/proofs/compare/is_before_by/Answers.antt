use Rattle.std.proofs.Common.{rules}
use Rattle.heard.proofs.Comparing.{by_fronts}
use Rattle.heard.proofs.compare.is_before_by.Goals as goal

pub returns-then-p-q : goal.returns-then-p-q
returns-then-p-q c = search (by_fronts, rules)

pub returns-then-q-p : goal.returns-then-q-p
returns-then-q-p c = search (by_fronts, rules)
