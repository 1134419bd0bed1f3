use Rattle.sorting.proofs.Settling.{Settling}
use Rattle.sorting.proofs.settle.settle.Given as goal

abbrev pub invariant-loop-j : goal.invariant-loop-j
invariant-loop-j l = Settling l.s l.initial.buf l.i l.x l.p l.buf l.j
