use Rattle.std.proofs.Common.{rules}
use Rattle.sorting.proofs.Joining.{widening}
use Rattle.sorting.proofs.sort.sort_block.Goals as goal

pub returns : goal.returns
returns c = search (widening, rules)
