use Rattle.std.proofs.Common.{rules}
use Rattle.cursors.proofs.Leasting.{leasting}
use Rattle.cursors.proofs.runs.Walk.least.Goals as goal

pub returns-then-low-eq18446744073709551615 : goal.returns-then-low-eq18446744073709551615
returns-then-low-eq18446744073709551615 c = search (leasting, rules)

pub loop-low-init : goal.loop-low-init
loop-low-init c = search (leasting, rules)

pub returns-then-self-p : goal.returns-then-self-p
returns-then-self-p c = search (leasting, rules)

pub loop-low-preserved : goal.loop-low-preserved
loop-low-preserved c = search (leasting, rules)
