use Rattle.judge.proofs.Writing.{Writing}
use Rattle.judge.proofs.write.write_batch.Given as goal

abbrev pub invariant-loop-x : goal.invariant-loop-x
invariant-loop-x l = Writing l.snapshot l.s l.offsets l.initial.out l.initial.w l.out l.w l.x-index
