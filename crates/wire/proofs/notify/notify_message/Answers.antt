use Rattle.std.proofs.Common.{rules}
use Rattle.wire.proofs.Sending.{noticing}
use Rattle.wire.proofs.notify.notify_message.Goals as goal

pub returns-then-out-lt12 : goal.returns-then-out-lt12
returns-then-out-lt12 c = search (noticing, rules)

pub returns : goal.returns
returns c = search (noticing, rules)
