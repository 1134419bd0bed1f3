use Rattle.std.proofs.Common.{rules}
use Rattle.merged.proofs.Placing.{lasting}
use Rattle.merged.proofs.last.merged_last.Goals as goal

pub new-walk-requires : goal.new-walk-requires
new-walk-requires c = search (lasting, rules)

pub put_whole-requires : goal.put_whole-requires
put_whole-requires c = search (lasting, rules)

pub returns : goal.returns
returns c = search (lasting, rules)
