use Rattle.merged.proofs.Placing.{Placing}
use Rattle.merged.proofs.place.place_all.Given as goal

abbrev pub invariant-loop-i : goal.invariant-loop-i
invariant-loop-i l = Placing l.lengths l.n l.places.at l.places.ends l.sum l.i
