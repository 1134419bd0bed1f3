use Rattle.std.proofs.Common.{◌-◌}
use Rattle.cursors.proofs.Lows.{Finding}
use Rattle.cursors.proofs.eights.Eights.find.Given as goal

abbrev pub invariant-loop-r : goal.invariant-loop-r
invariant-loop-r l = Finding l.self.of l.low l.from l.n l.r

abbrev pub decreases-loop-r : goal.decreases-loop-r
decreases-loop-r l = l.n - l.r
