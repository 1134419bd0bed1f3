use Rattle.std.proofs.Common.{rules}
use Rattle.heard.proofs.Hearing.{ends}
use Rattle.heard.proofs.hear.ended.Goals as goal

pub returns : goal.returns
returns c = search (ends, rules)
