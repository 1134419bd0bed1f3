use Rattle.std.proofs.Common.{◌-◌, length}
use Rattle.listing.proofs.Lining.{Lining}
use Rattle.listing.proofs.line.put_lines.Given as goal

abbrev pub invariant-loop-tag : goal.invariant-loop-tag
invariant-loop-tag l = Lining l.delta l.initial.out l.i l.out l.at l.end

abbrev pub decreases-loop-tag : goal.decreases-loop-tag
decreases-loop-tag l = length l.delta - l.at
