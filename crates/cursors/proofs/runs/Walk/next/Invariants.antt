use Rattle.cursors.proofs.Stepping.{SteppingOn, items_of}
use Rattle.cursors.proofs.runs.Walk.next.Given as goal

abbrev pub invariant-loop-lead : goal.invariant-loop-lead
invariant-loop-lead l = SteppingOn l.initial.self l.self

abbrev pub decreases-loop-lead : goal.decreases-loop-lead
decreases-loop-lead l = items_of l.self
