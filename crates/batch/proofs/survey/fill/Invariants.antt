use Rattle.std.proofs.Common.{◌-◌}
use Rattle.batch.proofs.Surveying.{Filling}
use Rattle.batch.proofs.survey.fill.Given as goal

abbrev pub invariant-loop-at : goal.invariant-loop-at
invariant-loop-at l = Filling l.s l.from l.stop l.buf l.n l.at

abbrev pub decreases-loop-at : goal.decreases-loop-at
decreases-loop-at l = l.stop - l.at
