use Rattle.std.proofs.Common.{rules}
use Rattle.sorting.proofs.Merging.{merging}
use Rattle.sorting.proofs.merge.merge.Goals as goal

pub weave-r-requires : goal.weave-r-requires
weave-r-requires c = search (merging, rules)

pub returns-then-is_before : goal.returns-then-is_before
returns-then-is_before c = search (merging, rules)

pub returns-else-is_before : goal.returns-else-is_before
returns-else-is_before c = search (merging, rules)
