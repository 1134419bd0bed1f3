use Rattle.std.proofs.Common.{rules}
use Rattle.batch.proofs.Collecting.{wanting}
use Rattle.batch.proofs.collect.is_wanted.Goals as goal

pub returns-then-is_above : goal.returns-then-is_above
returns-then-is_above c = search (wanting, rules)

pub returns : goal.returns
returns c = search (wanting, rules)
