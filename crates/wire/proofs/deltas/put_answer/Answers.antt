use Rattle.std.proofs.Common.{rules}
use Rattle.wire.proofs.Framing.{wholes}
use Rattle.wire.proofs.deltas.put_answer.Goals as goal

pub returns : goal.returns
returns c = search (wholes, rules)
