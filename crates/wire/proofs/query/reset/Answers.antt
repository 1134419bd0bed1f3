use Rattle.std.proofs.Common.{rules}
use Rattle.wire.proofs.Sending.{resetting}
use Rattle.wire.proofs.query.reset.Goals as goal

pub returns-then-out-lt8 : goal.returns-then-out-lt8
returns-then-out-lt8 c = search (resetting, rules)

pub returns : goal.returns
returns c = search (resetting, rules)
