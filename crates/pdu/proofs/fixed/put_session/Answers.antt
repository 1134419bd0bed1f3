use Rattle.std.proofs.Common.{rules}
use Rattle.pdu.proofs.Heads.{sessions}
use Rattle.pdu.proofs.fixed.put_session.Goals as goal

pub returns : goal.returns
returns c = search (sessions, rules)
