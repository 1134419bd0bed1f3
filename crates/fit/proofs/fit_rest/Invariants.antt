use Rattle.std.proofs.Common.{◌-◌, length}
use Rattle.fit.proofs.Fitting.{Resting}
use Rattle.fit.proofs.fit_rest.Given as goal

abbrev pub invariant-loop-y : goal.invariant-loop-y
invariant-loop-y l = Resting l.delta l.from l.at

abbrev pub decreases-loop-y : goal.decreases-loop-y
decreases-loop-y l = length l.delta - l.at
