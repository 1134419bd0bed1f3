use Rattle.std.proofs.Common.{length}
use Rattle.judge.proofs.Putting.{Putting, left_at}
use Rattle.judge.proofs.put.put.Given as goal

abbrev pub invariant-loop-out : goal.invariant-loop-out
invariant-loop-out l = Putting l.snapshot l.s l.stop l.map l.initial.out l.buf l.out l.w

abbrev pub decreases-loop-out : goal.decreases-loop-out
decreases-loop-out l = length (left_at l.s l.stop (l.w.last))
