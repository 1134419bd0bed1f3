use Rattle.std.proofs.Common.{rules}
use Rattle.batch.proofs.Collecting.{nexting}
use Rattle.batch.proofs.next.next.Goals as goal

pub returns : goal.returns
returns c = search (nexting, rules)
