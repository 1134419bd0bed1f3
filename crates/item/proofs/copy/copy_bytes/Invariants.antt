use Rattle.item.proofs.Copying.{Copied}
use Rattle.item.proofs.copy.copy_bytes.Given as goal

abbrev pub invariant-loop-k : goal.invariant-loop-k
invariant-loop-k l = Copied l.s l.initial.out l.from l.i l.n l.out l.k
