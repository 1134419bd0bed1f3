use Rattle.std.proofs.Common.{rules}
use Rattle.judge.proofs.Checking.{ones}
use Rattle.judge.proofs.check.check_one.Goals as goal

pub announces-requires-then-is_next : goal.announces-requires-then-is_next
announces-requires-then-is_next c = search (ones, rules)

pub returns-then-is_next : goal.returns-then-is_next
returns-then-is_next c = search (ones, rules)

pub returns : goal.returns
returns c = search (ones, rules)
