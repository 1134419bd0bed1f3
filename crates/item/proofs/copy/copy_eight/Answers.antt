use Rattle.std.proofs.Common.{rules}
use Rattle.item.proofs.Copying.{eight}
use Rattle.item.proofs.copy.copy_eight.Goals as goal

pub returns : goal.returns
returns c = search (eight, rules)
