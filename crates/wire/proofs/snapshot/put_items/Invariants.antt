use Rattle.std.proofs.Common.{◌-◌, length}
use Rattle.wire.proofs.Looping.{Listing}
use Rattle.wire.proofs.snapshot.put_items.Given as goal

abbrev pub invariant-loop-entry : goal.invariant-loop-entry
invariant-loop-entry l = Listing l.version l.s l.initial.out l.at l.out l.t

abbrev pub decreases-loop-entry : goal.decreases-loop-entry
decreases-loop-entry l = length l.s - l.at
