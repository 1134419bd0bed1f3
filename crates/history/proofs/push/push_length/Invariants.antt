use Rattle.history.proofs.Pushing.{Shifts}
use Rattle.history.proofs.push.push_length.Given as goal

abbrev pub invariant-loop-i : goal.invariant-loop-i
invariant-loop-i l = Shifts l.lens l.first l.n l.count l.next l.i
