use Rattle.std.proofs.Common.{rules}
use Rattle.batch.proofs.Collecting.{fronted}
use Rattle.batch.proofs.collect.front_or.Goals as goal

pub returns-then-x-eq0 : goal.returns-then-x-eq0
returns-then-x-eq0 c = search (fronted, rules)

pub returns : goal.returns
returns c = search (fronted, rules)
