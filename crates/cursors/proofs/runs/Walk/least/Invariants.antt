use Rattle.std.proofs.Common.{◌-◌}
use Rattle.cursors.proofs.Leasting.{Leasting}
use Rattle.cursors.proofs.runs.Walk.least.Given as goal

abbrev pub invariant-loop-low : goal.invariant-loop-low
invariant-loop-low l = Leasting l.self.store.now l.self.at l.self.ends l.self.from l.self.n l.self.fronts.of l.low l.first l.best l.last l.same

abbrev pub decreases-loop-low : goal.decreases-loop-low
decreases-loop-low l = l.self.n - l.last
