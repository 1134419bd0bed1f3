use Rattle.body.proofs.Ascent.{Sounded}
use Rattle.body.proofs.aspa.unsound_asns.Given as goal

abbrev pub invariant-loop-left : goal.invariant-loop-left
invariant-loop-left l = Sounded l.s l.customer l.before l.left

abbrev pub decreases-loop-left : goal.decreases-loop-left
decreases-loop-left l = l.left
