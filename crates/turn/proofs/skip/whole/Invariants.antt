use Rattle.std.proofs.Common.{◌-◌}
use Rattle.turn.proofs.Skipping.{Skipped}
use Rattle.turn.proofs.skip.whole.Given as goal

abbrev pub invariant-loop-k : goal.invariant-loop-k
invariant-loop-k l = Skipped l.a l.i l.b l.j l.m l.k

abbrev pub decreases-loop-k : goal.decreases-loop-k
decreases-loop-k l = l.m - l.k
