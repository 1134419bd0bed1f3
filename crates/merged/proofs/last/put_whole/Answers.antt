use Rattle.std.proofs.Common.{rules}
use Rattle.merged.proofs.Putting.{wholes}
use Rattle.merged.proofs.last.put_whole.Goals as goal

pub returns-then-most-out : goal.returns-then-most-out
returns-then-most-out c = search (wholes, rules)

pub returns : goal.returns
returns c = search (wholes, rules)
