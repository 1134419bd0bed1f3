use Rattle.std.proofs.Common.{rules}
use Rattle.pdu.proofs.Fixing.{simple}
use Rattle.pdu.proofs.fixed.put_response.Goals as goal

pub returns : goal.returns
returns c = search (simple, rules)
