use Rattle.cursors.proofs.Fronting.{Packing}
use Rattle.cursors.proofs.front.front_of.Given as goal

abbrev pub invariant-loop-i : goal.invariant-loop-i
invariant-loop-i l = Packing l.s l.k l.front l.i
