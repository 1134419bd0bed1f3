use Rattle.std.proofs.Common.{rules}
use Rattle.heard.proofs.Hearing.{endings}
use Rattle.heard.proofs.hear.ending.Goals as goal

pub returns-then-size-end_length : goal.returns-then-size-end_length
returns-then-size-end_length c = search (endings, rules)

pub returns-then-two_at-session : goal.returns-then-two_at-session
returns-then-two_at-session c = search (endings, rules)

pub returns-then-end-s : goal.returns-then-end-s
returns-then-end-s c = search (endings, rules)

pub returns : goal.returns
returns c = search (endings, rules)
