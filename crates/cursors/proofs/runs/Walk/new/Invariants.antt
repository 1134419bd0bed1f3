use Rattle.cursors.proofs.Lining.{Lining}
use Rattle.cursors.proofs.runs.Walk.new.Given as goal

abbrev pub invariant-loop-r : goal.invariant-loop-r
invariant-loop-r l = Lining l.store l.at l.ends l.from l.n l.fronts.of l.r
