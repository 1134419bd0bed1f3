use Rattle.std.proofs.Common.{rules}
use Rattle.batch.proofs.Collecting.{tests}
use Rattle.batch.proofs.collect.is_up_to.Goals as goal

pub returns-then-top-eq0 : goal.returns-then-top-eq0
returns-then-top-eq0 c = search (tests, rules)

pub is_before_by-requires : goal.is_before_by-requires
is_before_by-requires c = search (tests, rules)

pub returns : goal.returns
returns c = search (tests, rules)
