use Rattle.std.proofs.Common.{rules}
use Rattle.pdu.proofs.Fixing.{ends}
use Rattle.pdu.proofs.fixed.put_end.Goals as goal

pub put_times-requires : goal.put_times-requires
put_times-requires c = search (ends, rules)

pub returns : goal.returns
returns c = search (ends, rules)
