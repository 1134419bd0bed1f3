use Rattle.wire.proofs.Looping.{Putting, items_of}
use Rattle.wire.proofs.deltas.put_all.Given as goal

abbrev pub invariant-loop-key : goal.invariant-loop-key
invariant-loop-key l = Putting l.version l.initial.walk l.initial.out l.walk l.out l.t

abbrev pub decreases-loop-key : goal.decreases-loop-key
decreases-loop-key l = items_of l.walk
