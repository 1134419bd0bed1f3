use Rattle.sorting.proofs.Running.{Built}
use Rattle.sorting.proofs.runs.settle_runs.Given as goal

abbrev pub invariant-loop-a : goal.invariant-loop-a
invariant-loop-a l = Built l.s l.initial.buf l.buf 7 l.a
