use Rattle.std.proofs.Common.{◌-◌, length}
use Rattle.verdict.proofs.Passing.{Fronted}
use Rattle.verdict.proofs.pass.pass_kind.Given as goal

abbrev pub invariant-loop-at : goal.invariant-loop-at
invariant-loop-at l = Fronted l.form l.s l.kind l.start l.from l.at l.front

abbrev pub decreases-loop-at : goal.decreases-loop-at
decreases-loop-at l = length l.s - l.at
