use Rattle.std.proofs.Common.{◌-◌, length}
use Rattle.wire.proofs.Running.{Running}
use Rattle.wire.proofs.origins.put_run.Given as goal

abbrev pub invariant-loop-version : goal.invariant-loop-version
invariant-loop-version g l = Running l.version l.s l.from l.t l.initial.out l.at l.out l.len l.announced

abbrev pub decreases-loop-version : goal.decreases-loop-version
decreases-loop-version g l = length l.s - l.at
