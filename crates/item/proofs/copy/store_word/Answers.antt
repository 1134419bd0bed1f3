use Rattle.std.proofs.Common.{rules}
use Rattle.item.proofs.Copying.{halves}
use Rattle.item.proofs.copy.store_word.Goals as goal

pub returns : goal.returns
returns c = search (halves, rules)
