use Rattle.std.proofs.Common.{rules}
use Rattle.batch.proofs.Collecting.{passing_behind}
use Rattle.batch.proofs.collect.is_passed_behind.Goals as goal

pub returns-then-type_at-eq6 : goal.returns-then-type_at-eq6
returns-then-type_at-eq6 c = search (passing_behind, rules)

pub returns : goal.returns
returns c = search (passing_behind, rules)
