use Rattle.std.proofs.Common.{rules}
use Rattle.wire.proofs.Looping.{putting}
use Rattle.wire.proofs.deltas.put_all.Goals as goal

pub loop-key-init : goal.loop-key-init
loop-key-init c = search (putting, rules)

pub loop-key-preserved : goal.loop-key-preserved
loop-key-preserved c = search (putting, rules)

pub returns : goal.returns
returns c = search (putting, rules)
