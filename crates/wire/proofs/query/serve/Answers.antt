use Rattle.std.proofs.Common.{rules}
use Rattle.wire.proofs.Sending.{serving}
use Rattle.wire.proofs.query.serve.Goals as goal

pub returns : goal.returns
returns c = search (serving, rules)
