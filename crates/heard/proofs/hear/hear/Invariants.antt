use Rattle.std.proofs.Common.{◌-◌, length}
use Rattle.heard.proofs.Hearing.{Hearing}
use Rattle.heard.proofs.hear.hear.Given as goal

abbrev pub invariant-loop-stop : goal.invariant-loop-stop
invariant-loop-stop l = Hearing l.version l.session l.s l.at l.sums

abbrev pub decreases-loop-stop : goal.decreases-loop-stop
decreases-loop-stop l = length l.s - l.at
