use Rattle.std.proofs.Common.{length}
use Rattle.judge.proofs.Faulting.{Faulting, left_at}
use Rattle.judge.proofs.least.least_fault.Given as goal

abbrev pub invariant-loop-c : goal.invariant-loop-c
invariant-loop-c l = Faulting l.snapshot l.s l.stop l.map l.buf l.c

abbrev pub decreases-loop-c : goal.decreases-loop-c
decreases-loop-c l = length (left_at l.s l.stop (l.c.last))
