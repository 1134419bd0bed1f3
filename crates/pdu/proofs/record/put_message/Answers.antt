use Rattle.std.proofs.Common.{rules}
use Rattle.pdu.proofs.Records.{placing}
use Rattle.pdu.proofs.record.put_message.Goals as goal

pub returns-then-out-i : goal.returns-then-out-i
returns-then-out-i c = search (placing, rules)

pub returns : goal.returns
returns c = search (placing, rules)
