use Rattle.std.proofs.Common.{rules}
use Rattle.wire.proofs.Framing.{wholes}
use Rattle.wire.proofs.snapshot.put_snapshot.Goals as goal

pub returns-then-most-out : goal.returns-then-most-out
returns-then-most-out c = search (wholes, rules)

pub returns : goal.returns
returns c = search (wholes, rules)
