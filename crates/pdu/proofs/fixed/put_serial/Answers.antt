use Rattle.std.proofs.Common.{rules}
use Rattle.pdu.proofs.Fixing.{serials}
use Rattle.pdu.proofs.fixed.put_serial.Goals as goal

pub returns : goal.returns
returns c = search (serials, rules)
