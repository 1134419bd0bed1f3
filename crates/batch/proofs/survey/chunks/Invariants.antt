use Rattle.batch.proofs.Surveying.{Surveying}
use Rattle.batch.proofs.survey.chunks.Given as goal

abbrev pub invariant-loop-c : goal.invariant-loop-c
invariant-loop-c l = Surveying l.s l.stop l.every l.map l.buf l.at l.held
