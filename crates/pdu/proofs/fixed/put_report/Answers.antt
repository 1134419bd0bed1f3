use Rattle.std.proofs.Common.{rules}
use Rattle.pdu.proofs.Fixing.{reports}
use Rattle.pdu.proofs.fixed.put_report.Goals as goal

pub returns : goal.returns
returns c = search (reports, rules)
