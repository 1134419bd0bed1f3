use Rattle.std.proofs.Common.{rules}
use Rattle.wire.proofs.Sending.{holding}
use Rattle.wire.proofs.full.send_all.Goals as goal

pub put_snapshot-writing-requires : goal.put_snapshot-writing-requires
put_snapshot-writing-requires c = search (holding, rules)

pub returns : goal.returns
returns c = search (holding, rules)
