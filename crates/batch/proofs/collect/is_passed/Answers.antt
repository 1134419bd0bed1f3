use Rattle.std.proofs.Common.{rules}
use Rattle.batch.proofs.Collecting.{passing}
use Rattle.batch.proofs.collect.is_passed.Goals as goal

pub returns : goal.returns
returns c = search (passing, rules)
