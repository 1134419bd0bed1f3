use Rattle.std.proofs.Common.{◌-◌, length}
use Rattle.verdict.proofs.Judging.{Judged}
use Rattle.verdict.proofs.check.check.Given as goal

abbrev pub invariant-loop-tag : goal.invariant-loop-tag
invariant-loop-tag l = Judged l.form l.s l.at l.before

abbrev pub decreases-loop-tag : goal.decreases-loop-tag
decreases-loop-tag l = length l.s - l.at
