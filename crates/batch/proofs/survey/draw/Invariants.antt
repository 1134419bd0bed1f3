use Rattle.batch.proofs.Surveying.{Drawing}
use Rattle.batch.proofs.survey.draw.Given as goal

abbrev pub invariant-loop-i : goal.invariant-loop-i
invariant-loop-i l = Drawing l.buf l.n l.every l.initial.hints l.held l.hints l.r
