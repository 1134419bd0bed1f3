use Rattle.std.proofs.Common.{◌-◌, length}
use Rattle.sorting.proofs.Joining.{Widening}
use Rattle.sorting.proofs.sort.sort_block.Given as goal

abbrev pub invariant-loop-w : goal.invariant-loop-w
invariant-loop-w l = Widening l.s l.initial.buf l.buf l.spare l.w

abbrev pub decreases-loop-w : goal.decreases-loop-w
decreases-loop-w l = length l.buf - l.w
