use Rattle.std.proofs.Common.{◌*◌}
use Rattle.body.proofs.Ascent.{Ascended}
use Rattle.body.proofs.aspa.ascending_asns.Given as goal

abbrev pub invariant-loop-k : goal.invariant-loop-k
invariant-loop-k l = Ascended l.s l.before (4 * l.k)
