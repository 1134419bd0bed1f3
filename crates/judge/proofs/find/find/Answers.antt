use Rattle.std.proofs.Common.{rules}
use Rattle.judge.proofs.Finding.{finding}
use Rattle.judge.proofs.find.find.Goals as goal

pub returns-then-is_past : goal.returns-then-is_past
returns-then-is_past c = search (finding, rules)

pub returns : goal.returns
returns c = search (finding, rules)
