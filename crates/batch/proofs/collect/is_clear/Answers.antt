use Rattle.std.proofs.Common.{rules}
use Rattle.batch.proofs.Collecting.{clearing}
use Rattle.batch.proofs.collect.is_clear.Goals as goal

pub returns-then-is_above : goal.returns-then-is_above
returns-then-is_above c = search (clearing, rules)

pub returns : goal.returns
returns c = search (clearing, rules)
