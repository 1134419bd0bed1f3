use Rattle.std.proofs.Common.{◌-◌, length}
use Rattle.walk.proofs.Walking.{Resting}
use Rattle.walk.proofs.walk.put_rest.Given as goal

abbrev pub invariant-loop-x : goal.invariant-loop-x
invariant-loop-x l = Resting l.form l.run.reading l.run.bytes.now l.from l.initial.out l.initial.sum l.at l.sum l.out

abbrev pub decreases-loop-x : goal.decreases-loop-x
decreases-loop-x l = length l.run.bytes.now - l.at
