use Rattle.std.proofs.Common.{rules}
use Rattle.judge.proofs.Checking.{nexts}
use Rattle.judge.proofs.check.is_next.Goals as goal

pub returns-then-last-eq0 : goal.returns-then-last-eq0
returns-then-last-eq0 c = search (nexts, rules)

pub returns : goal.returns
returns c = search (nexts, rules)
