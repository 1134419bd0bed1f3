use Rattle.std.proofs.Common.{◌-◌, length}
use Rattle.turn.proofs.Seeking.{Seeks}
use Rattle.turn.proofs.seek.seek.Given as goal

abbrev pub invariant-loop-at : goal.invariant-loop-at
invariant-loop-at l = Seeks l.s l.start l.bound l.at l.count

abbrev pub decreases-loop-at : goal.decreases-loop-at
decreases-loop-at l = length l.s - l.at
