use Rattle.std.proofs.Common.{rules}
use Rattle.walk.proofs.Walking.{merging}
use Rattle.walk.proofs.walk.put_merge.Goals as goal

pub loop-side-preserved : goal.loop-side-preserved
loop-side-preserved c = search (merging, rules)

pub returns-in-Left : goal.returns-in-Left
returns-in-Left c = search (merging, rules)

pub returns-in-Right : goal.returns-in-Right
returns-in-Right c = search (merging, rules)
