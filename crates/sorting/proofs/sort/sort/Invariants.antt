use Rattle.sorting.proofs.Joining.{Extending}
use Rattle.sorting.proofs.sort.sort.Given as goal

abbrev pub invariant-loop-m : goal.invariant-loop-m
invariant-loop-m l = Extending l.s l.initial.buf l.buf l.spare l.m
