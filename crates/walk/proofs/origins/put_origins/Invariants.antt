use Rattle.std.proofs.Common.{◌-◌, ◌+◌, length}
use Rattle.walk.proofs.OriginTurns.{Merged}
use Rattle.walk.proofs.origins.put_origins.Given as goal

abbrev pub invariant-loop-next : goal.invariant-loop-next
invariant-loop-next l = Merged l.a l.initial.stand.left l.b l.initial.stand.right l.initial.stand.counts l.initial.out l.out l.stand.left l.stand.right l.stand.counts

abbrev pub decreases-loop-next : goal.decreases-loop-next
decreases-loop-next l = length l.a - l.stand.left + (length l.b - l.stand.right)
