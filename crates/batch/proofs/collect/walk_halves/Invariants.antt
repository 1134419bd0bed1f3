use Rattle.std.proofs.Common.{◌-◌}
use Rattle.batch.proofs.Collecting.{Halving}
use Rattle.batch.proofs.collect.walk_halves.Given as goal

abbrev pub invariant-loop-a : goal.invariant-loop-a
invariant-loop-a l = Halving l.s l.stop l.low l.mid l.over l.buf l.p l.a l.b

abbrev pub decreases-loop-a : goal.decreases-loop-a
decreases-loop-a l = l.mid - l.a
