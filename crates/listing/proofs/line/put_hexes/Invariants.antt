use Rattle.listing.proofs.Lining.{Hexing}
use Rattle.listing.proofs.line.put_hexes.Given as goal

abbrev pub invariant-loop-x : goal.invariant-loop-x
invariant-loop-x l = Hexing l.s l.initial.out l.i l.out l.x-index l.end
