use Rattle.std.proofs.Common.{rules}
use Rattle.turn.proofs.Skipping.{skipping}
use Rattle.turn.proofs.skip.whole.Goals as goal

pub loop-k-preserved-then-a-at-eq1 : goal.loop-k-preserved-then-a-at-eq1
loop-k-preserved-then-a-at-eq1 c = search (skipping, rules)

pub loop-k-preserved : goal.loop-k-preserved
loop-k-preserved c = search (skipping, rules)
