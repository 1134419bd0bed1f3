use Rattle.std.proofs.Common.{rules}
use Rattle.wire.proofs.Running.{one}
use Rattle.wire.proofs.origins.put_four.Goals as goal

pub returns-then-out-i : goal.returns-then-out-i
returns-then-out-i c = search (one, rules)

pub returns : goal.returns
returns c = search (one, rules)
