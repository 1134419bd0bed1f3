use Rattle.std.proofs.Common.{◌-◌, ◌+◌, length}
use Rattle.fit.proofs.Fitting.{Fitting}
use Rattle.fit.proofs.first_misfit.Given as goal

abbrev pub invariant-loop-side : goal.invariant-loop-side
invariant-loop-side l = Fitting l.snapshot l.delta l.i l.j

abbrev pub decreases-loop-side : goal.decreases-loop-side
decreases-loop-side l = length l.snapshot - l.i + (length l.delta - l.j)
