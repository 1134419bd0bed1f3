use Rattle.std.proofs.Common.{rules}
use Rattle.batch.proofs.Collecting.{tests, fronted}
use Rattle.batch.proofs.bound.is_behind.Goals as goal

pub returns-then-low-eq0 : goal.returns-then-low-eq0
returns-then-low-eq0 c = search (tests, fronted, rules)

pub returns : goal.returns
returns c = search (tests, fronted, rules)
