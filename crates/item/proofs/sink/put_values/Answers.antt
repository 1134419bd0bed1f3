use Rattle.std.proofs.Common.{rules}
use Rattle.item.proofs.Sinking.{putting}
use Rattle.item.proofs.sink.put_values.Goals as goal

pub returns-in-Update : goal.returns-in-Update
returns-in-Update c = search (putting, rules)
