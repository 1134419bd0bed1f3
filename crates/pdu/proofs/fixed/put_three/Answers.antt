use Rattle.std.proofs.Common.{rules}
use Rattle.pdu.proofs.Fixing.{times}
use Rattle.pdu.proofs.fixed.put_three.Goals as goal

pub returns : goal.returns
returns c = search (times, rules)
