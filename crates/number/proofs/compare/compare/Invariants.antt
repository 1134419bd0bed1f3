use Rattle.std.proofs.Common.{◌-◌}
use Rattle.number.proofs.Eights.{Worded}
use Rattle.number.proofs.compare.compare.Given as goal

abbrev pub invariant-loop-i : goal.invariant-loop-i
invariant-loop-i l = Worded l.a l.b l.n l.i

abbrev pub decreases-loop-i : goal.decreases-loop-i
decreases-loop-i l = l.n - l.i
