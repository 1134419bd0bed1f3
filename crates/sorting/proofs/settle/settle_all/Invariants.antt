use Rattle.sorting.proofs.Settling.{Lining}
use Rattle.sorting.proofs.settle.settle_all.Given as goal

abbrev pub invariant-loop-i : goal.invariant-loop-i
invariant-loop-i l = Lining l.s l.initial.buf l.buf l.i
