use Rattle.std.proofs.Common.{rules}
use Rattle.history.proofs.Pushing.{growing}
use Rattle.history.proofs.push.grown.Goals as goal

pub push_length-deltas-requires : goal.push_length-deltas-requires
push_length-deltas-requires c = search (growing, rules)

pub overflow_sub-n : goal.overflow_sub-n
overflow_sub-n c = search (growing, rules)

pub returns : goal.returns
returns c = search (growing, rules)
