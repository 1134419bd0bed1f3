use Rattle.std.proofs.Common.{rules}
use Rattle.pdu.proofs.Records.{keys}
use Rattle.pdu.proofs.record.put_router_key.Goals as goal

pub returns : goal.returns
returns c = search (keys, rules)
