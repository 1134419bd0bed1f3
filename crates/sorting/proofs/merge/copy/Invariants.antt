use Rattle.sorting.proofs.Merging.{Copying}
use Rattle.sorting.proofs.merge.copy.Given as goal

abbrev pub invariant-loop-k : goal.invariant-loop-k
invariant-loop-k l = Copying l.from l.initial.to l.to l.k
