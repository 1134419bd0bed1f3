use Rattle.std.proofs.Common.{◌-◌, length}
use Rattle.snapdiff.proofs.Lengths.{Filled}
use Rattle.snapdiff.proofs.read.read_full.Given as goal

abbrev pub invariant-loop-done : goal.invariant-loop-done
invariant-loop-done g l = Filled l.buf l.done

abbrev pub decreases-loop-done : goal.decreases-loop-done
decreases-loop-done g l = length l.buf - l.done
