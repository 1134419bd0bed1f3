use Rattle.std.proofs.Common.{rules}
use Rattle.item.proofs.Copying.{pairs}
use Rattle.item.proofs.copy.store_two.Goals as goal

pub returns : goal.returns
returns c = search (pairs, rules)
