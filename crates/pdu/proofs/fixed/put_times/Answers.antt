use Rattle.std.proofs.Common.{rules}
use Rattle.pdu.proofs.Fixing.{times}
use Rattle.pdu.proofs.fixed.put_times.Goals as goal

pub put_three-requires : goal.put_three-requires
put_three-requires c = search (times, rules)
