use Rattle.std.proofs.Common.{rules}
use Rattle.batch.proofs.Collecting.{tests}
use Rattle.batch.proofs.collect.is_above.Goals as goal

pub returns-then-low-eq0 : goal.returns-then-low-eq0
returns-then-low-eq0 c = search (tests, rules)

pub is_before_by-requires : goal.is_before_by-requires
is_before_by-requires c = search (tests, rules)

pub returns : goal.returns
returns c = search (tests, rules)
