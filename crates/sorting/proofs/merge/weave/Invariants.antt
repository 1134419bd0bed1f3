use Rattle.std.proofs.Common.{◌+◌}
use Rattle.sorting.proofs.Merging.{Weaving}
use Rattle.sorting.proofs.merge.weave.Given as goal

abbrev pub invariant-loop-i : goal.invariant-loop-i
invariant-loop-i l = Weaving l.s l.initial.buf l.m l.right l.buf l.i l.j l.x l.y l.p l.q

abbrev pub decreases-loop-i : goal.decreases-loop-i
decreases-loop-i l = l.i + l.j
