use Rattle.cursors.proofs.Lows.{Single}
use Rattle.cursors.proofs.eights.Eights.find_singly.Given as goal

abbrev pub invariant-loop-r : goal.invariant-loop-r
invariant-loop-r l = Single l.self.of l.low l.from l.n l.r
