use Rattle.std.proofs.Common.{◌-◌}
use Rattle.batch.proofs.Bounding.{Aiming}
use Rattle.batch.proofs.bound.aim.Given as goal

abbrev pub invariant-loop-a : goal.invariant-loop-a
invariant-loop-a l = Aiming l.s l.stop l.hints l.low l.a l.b

abbrev pub decreases-loop-a : goal.decreases-loop-a
decreases-loop-a l = l.b - l.a
