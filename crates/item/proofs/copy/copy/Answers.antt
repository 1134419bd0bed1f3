use Rattle.std.proofs.Common.{rules}
use Rattle.item.proofs.Copying.{parts}
use Rattle.item.proofs.copy.copy.Goals as goal

pub returns-then-out-i : goal.returns-then-out-i
returns-then-out-i c = search (parts, rules)

pub returns : goal.returns
returns c = search (parts, rules)
