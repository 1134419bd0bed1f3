use Rattle.std.proofs.Common.{◌-◌, length}
use Rattle.reader.proofs.Counting.{Passed}
use Rattle.reader.proofs.count.count.Given as goal

abbrev pub invariant-loop-tag : goal.invariant-loop-tag
invariant-loop-tag l = Passed l.delta l.reader l.tally

abbrev pub decreases-loop-tag : goal.decreases-loop-tag
decreases-loop-tag l = length l.delta - l.reader.at
