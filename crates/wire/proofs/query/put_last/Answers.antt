use Rattle.std.proofs.Common.{rules}
use Rattle.wire.proofs.Sending.{lasting}
use Rattle.wire.proofs.query.put_last.Goals as goal

pub most_of-most-requires : goal.most_of-most-requires
most_of-most-requires c = search (lasting, rules)

pub new-walk-requires : goal.new-walk-requires
new-walk-requires c = search (lasting, rules)

pub put_merged-requires : goal.put_merged-requires
put_merged-requires c = search (lasting, rules)

pub returns : goal.returns
returns c = search (lasting, rules)
