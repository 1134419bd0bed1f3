use Rattle.std.proofs.Common.{◌-◌, length}
use Rattle.turn.proofs.Stretching.{Stretching}
use Rattle.turn.proofs.stretch.seek_changes.Given as goal

abbrev pub invariant-loop-at : goal.invariant-loop-at
invariant-loop-at l = Stretching l.s l.start l.bound l.at l.announced l.withdrawn

abbrev pub decreases-loop-at : goal.decreases-loop-at
decreases-loop-at l = length l.s - l.at
