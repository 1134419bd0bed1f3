use Rattle.cursors.proofs.Lows.{Skipping}
use Rattle.cursors.proofs.eights.Eights.skip.Given as goal

abbrev pub invariant-loop-b : goal.invariant-loop-b
invariant-loop-b l = Skipping l.self.of l.low l.from l.b
