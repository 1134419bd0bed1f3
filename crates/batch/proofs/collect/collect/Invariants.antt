use Rattle.batch.proofs.Collecting.{Collecting}
use Rattle.batch.proofs.collect.collect.Given as goal

abbrev pub invariant-loop-c : goal.invariant-loop-c
invariant-loop-c l = Collecting l.s l.stop l.low l.map l.buf l.p l.at
