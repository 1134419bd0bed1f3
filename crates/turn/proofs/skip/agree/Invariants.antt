use Rattle.std.proofs.Common.{◌-◌}
use Rattle.turn.proofs.Skipping.{Agreeing}
use Rattle.turn.proofs.skip.agree.Given as goal

abbrev pub invariant-loop-k : goal.invariant-loop-k
invariant-loop-k l = Agreeing l.a l.i l.b l.j l.n l.k

abbrev pub decreases-loop-k : goal.decreases-loop-k
decreases-loop-k l = l.n - l.k
