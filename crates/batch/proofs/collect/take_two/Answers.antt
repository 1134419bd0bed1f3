use Rattle.std.proofs.Common.{rules}
use Rattle.batch.proofs.Collecting.{twice}
use Rattle.batch.proofs.collect.take_two.Goals as goal

pub returns-then-is_passed-2 : goal.returns-then-is_passed-2
returns-then-is_passed-2 c = search (twice, rules)

pub take_in-requires : goal.take_in-requires
take_in-requires c = search (twice, rules)

pub returns : goal.returns
returns c = search (twice, rules)
