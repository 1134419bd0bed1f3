use Rattle.std.proofs.Common.{rules}
use Rattle.pdu.proofs.Records.{prefixes}
use Rattle.pdu.proofs.record.put_asn.Goals as goal

pub returns : goal.returns
returns c = search (prefixes, rules)
