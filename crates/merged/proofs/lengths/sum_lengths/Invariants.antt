use Rattle.merged.proofs.Summing.{Sums}
use Rattle.merged.proofs.lengths.sum_lengths.Given as goal

abbrev pub invariant-loop-len : goal.invariant-loop-len
invariant-loop-len l = Sums l.len-items l.sum l.len-index
