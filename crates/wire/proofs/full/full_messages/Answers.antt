use Rattle.std.proofs.Common.{rules}
use Rattle.wire.proofs.Sending.{filling}
use Rattle.wire.proofs.full.full_messages.Goals as goal

pub returns-then-not-well_formed : goal.returns-then-not-well_formed
returns-then-not-well_formed c = search (filling, rules)

pub send_all-requires : goal.send_all-requires
send_all-requires c = search (filling, rules)

pub returns : goal.returns
returns c = search (filling, rules)
