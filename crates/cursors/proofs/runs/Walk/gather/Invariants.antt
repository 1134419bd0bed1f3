use Rattle.std.proofs.Common.{◌-◌, ◌+◌}
use Rattle.cursors.proofs.Gathering.{GatheringOn}
use Rattle.cursors.proofs.runs.Walk.gather.Given as goal

abbrev pub invariant-loop-held : goal.invariant-loop-held
invariant-loop-held l = GatheringOn l.initial.self l.low l.first l.last l.q l.g l.same l.self l.held l.r

abbrev pub decreases-loop-held : goal.decreases-loop-held
decreases-loop-held l = l.last + 1 - l.r
