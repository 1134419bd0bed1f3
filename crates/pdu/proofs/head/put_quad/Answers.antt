use Rattle.std.proofs.Common.{rules}
use Rattle.pdu.proofs.Heads.{heads}
use Rattle.pdu.proofs.head.put_quad.Goals as goal

pub returns : goal.returns
returns c = search (heads, rules)
