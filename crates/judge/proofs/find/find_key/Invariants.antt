use Rattle.std.proofs.Common.{◌-◌, length}
use Rattle.judge.proofs.Finding.{Seeking, key_in}
use Rattle.judge.proofs.find.find_key.Given as goal

abbrev pub invariant-loop-item : goal.invariant-loop-item
invariant-loop-item l = Seeking l.snapshot l.start (key_in l.name l.key) l.at

abbrev pub decreases-loop-item : goal.decreases-loop-item
decreases-loop-item l = length l.snapshot - l.at
