use Rattle.std.proofs.Common.{rules}
use Rattle.item.proofs.Putting.{fields}
use Rattle.item.proofs.sink.put_field.Goals as goal

pub returns : goal.returns
returns c = search (fields, rules)
