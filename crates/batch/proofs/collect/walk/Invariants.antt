use Rattle.std.proofs.Common.{◌-◌}
use Rattle.batch.proofs.Collecting.{Walking}
use Rattle.batch.proofs.collect.walk.Given as goal

abbrev pub invariant-loop-at : goal.invariant-loop-at
invariant-loop-at l = Walking l.s l.stop l.low l.over l.buf l.p l.at

abbrev pub decreases-loop-at : goal.decreases-loop-at
decreases-loop-at l = l.over - l.at
