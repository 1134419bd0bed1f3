use Rattle.std.proofs.Common.{rules}
use Rattle.heard.proofs.Hearing.{wholes}
use Rattle.heard.proofs.hear.is_whole.Goals as goal

pub returns-then-room-lt8 : goal.returns-then-room-lt8
returns-then-room-lt8 c = search (wholes, rules)

pub returns-then-s-at : goal.returns-then-s-at
returns-then-s-at c = search (wholes, rules)

pub returns : goal.returns
returns c = search (wholes, rules)
