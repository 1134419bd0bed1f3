use Rattle.std.proofs.Common.{◌-◌, ◌+◌, length}
use Rattle.walk.proofs.Walking.{Merging}
use Rattle.walk.proofs.walk.put_merge.Given as goal

abbrev pub invariant-loop-side : goal.invariant-loop-side
invariant-loop-side l = Merging l.form l.a.reading l.a.bytes.now l.b.reading l.b.bytes.now l.initial.out l.stand.left l.stand.right l.stand.counts l.out

abbrev pub decreases-loop-side : goal.decreases-loop-side
decreases-loop-side l = length l.a.bytes.now - l.stand.left + (length l.b.bytes.now - l.stand.right)
