use Rattle.appliance.proofs.Gathering.{Gathering}
use Rattle.appliance.proofs.query_all.query_all.Given as goal

abbrev pub invariant-loop-k : goal.invariant-loop-k
invariant-loop-k l = Gathering l.history l.snapshots l.deltas l.queries l.initial.out l.count l.replies l.table l.used l.k l.out
