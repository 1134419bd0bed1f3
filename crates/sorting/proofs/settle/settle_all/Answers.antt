use Rattle.std.proofs.Common.{rules}
use Rattle.sorting.proofs.Settling.{lining}
use Rattle.sorting.proofs.settle.settle_all.Goals as goal

pub returns : goal.returns
returns c = search (lining, rules)
