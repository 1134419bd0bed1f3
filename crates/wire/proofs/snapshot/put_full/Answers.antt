use Rattle.std.proofs.Common.{rules}
use Rattle.wire.proofs.Framing.{wholes}
use Rattle.wire.proofs.snapshot.put_full.Goals as goal

pub returns : goal.returns
returns c = search (wholes, rules)
