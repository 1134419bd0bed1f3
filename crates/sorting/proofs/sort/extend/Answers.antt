use Rattle.std.proofs.Common.{rules}
use Rattle.sorting.proofs.Joining.{extending}
use Rattle.sorting.proofs.sort.extend.Goals as goal

pub merge-requires : goal.merge-requires
merge-requires c = search (extending, rules)

pub returns : goal.returns
returns c = search (extending, rules)
