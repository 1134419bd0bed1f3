use Rattle.std.proofs.Common.{◌-◌, length}
use Rattle.verdict.proofs.Passing.{Passed}
use Rattle.verdict.proofs.pass.pass_origins.Given as goal

abbrev pub invariant-loop-at : goal.invariant-loop-at
invariant-loop-at l = Passed l.form l.s l.start l.at l.before l.field

abbrev pub decreases-loop-at : goal.decreases-loop-at
decreases-loop-at l = length l.s - l.at
