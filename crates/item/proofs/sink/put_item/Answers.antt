use Rattle.std.proofs.Common.{rules}
use Rattle.item.proofs.Putting.{items}
use Rattle.item.proofs.sink.put_item.Goals as goal

pub returns : goal.returns
returns c = search (items, rules)
