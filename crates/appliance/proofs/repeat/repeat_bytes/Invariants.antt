use Rattle.appliance.proofs.Repeating.{Repeated}
use Rattle.appliance.proofs.repeat.repeat_bytes.Given as goal

abbrev pub invariant-loop-k : goal.invariant-loop-k
invariant-loop-k l = Repeated l.initial.out l.from l.i l.n l.out l.k
