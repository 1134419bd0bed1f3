use Rattle.merged.proofs.Putting.{Putting, items_of}
use Rattle.merged.proofs.put.put_all.Given as goal

abbrev pub invariant-loop-sum : goal.invariant-loop-sum
invariant-loop-sum l = Putting l.initial.walk l.initial.out l.walk l.out l.counts

abbrev pub decreases-loop-sum : goal.decreases-loop-sum
decreases-loop-sum l = items_of l.walk
