use Rattle.std.proofs.Common.{rules}
use Rattle.sorting.proofs.Joining.{joining}
use Rattle.sorting.proofs.sort.sort.Goals as goal

pub loop-m-init : goal.loop-m-init
loop-m-init c = search (joining, rules)

pub extend-requires : goal.extend-requires
extend-requires c = search (joining, rules)

pub loop-m-preserved : goal.loop-m-preserved
loop-m-preserved c = search (joining, rules)

pub returns-else-ascends-2 : goal.returns-else-ascends-2
returns-else-ascends-2 c = search (joining, rules)
