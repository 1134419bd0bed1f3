use Rattle.judge.proofs.Checking.{Checking}
use Rattle.judge.proofs.check.check_batch.Given as goal

abbrev pub invariant-loop-x : goal.invariant-loop-x
invariant-loop-x l = Checking l.snapshot l.s l.offsets l.initial.c l.c l.x-index
