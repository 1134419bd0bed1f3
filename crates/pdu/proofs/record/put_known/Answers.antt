use Rattle.std.proofs.Common.{rules}
use Rattle.pdu.proofs.Records.{choosing}
use Rattle.pdu.proofs.record.put_known.Goals as goal

pub returns-then-key-ne1 : goal.returns-then-key-ne1
returns-then-key-ne1 c = search (choosing, rules)

pub returns-then-s-from-eq4 : goal.returns-then-s-from-eq4
returns-then-s-from-eq4 c = search (choosing, rules)

pub returns : goal.returns
returns c = search (choosing, rules)
