use Rattle.sorting.proofs.Joining.{Ascending}
use Rattle.sorting.proofs.sort.ascends.Given as goal

abbrev pub invariant-loop-i : goal.invariant-loop-i
invariant-loop-i l = Ascending l.s l.buf l.i
