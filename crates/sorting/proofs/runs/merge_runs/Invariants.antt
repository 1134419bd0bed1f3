use Rattle.sorting.proofs.Running.{Doubling}
use Rattle.sorting.proofs.runs.merge_runs.Given as goal

abbrev pub invariant-loop-a : goal.invariant-loop-a
invariant-loop-a l = Doubling l.s l.initial.buf l.w l.buf l.spare l.a
