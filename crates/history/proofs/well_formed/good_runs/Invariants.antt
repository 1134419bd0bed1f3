use Rattle.history.proofs.Forming.{Checks}
use Rattle.history.proofs.well_formed.good_runs.Given as goal

abbrev pub invariant-loop-k : goal.invariant-loop-k
invariant-loop-k l = Checks l.lens l.n l.deltas l.from l.k
