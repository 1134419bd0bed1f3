use Rattle.std.proofs.Common.{rules}
use Rattle.sorting.proofs.Merging.{weaving}
use Rattle.sorting.proofs.merge.weave.Goals as goal

pub front_at-p-requires : goal.front_at-p-requires
front_at-p-requires c = search (weaving, rules)

pub loop-i-init : goal.loop-i-init
loop-i-init c = search (weaving, rules)

pub returns-then-i-eq0 : goal.returns-then-i-eq0
returns-then-i-eq0 c = search (weaving, rules)

pub front_at-p-requires-then-is_before_by : goal.front_at-p-requires-then-is_before_by
front_at-p-requires-then-is_before_by c = search (weaving, rules)

pub loop-i-preserved-then-is_before_by : goal.loop-i-preserved-then-is_before_by
loop-i-preserved-then-is_before_by c = search (weaving, rules)

pub returns-then-j-eq0 : goal.returns-then-j-eq0
returns-then-j-eq0 c = search (weaving, rules)

pub loop-i-preserved : goal.loop-i-preserved
loop-i-preserved c = search (weaving, rules)
