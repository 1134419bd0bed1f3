use Rattle.std.proofs.Common.{rules}
use Rattle.history.proofs.Pushing.{keeping}
use Rattle.history.proofs.push.kept_of.Goals as goal

pub sum_lengths-from-requires : goal.sum_lengths-from-requires
sum_lengths-from-requires c = search (keeping, rules)

pub sum_lengths-len-requires : goal.sum_lengths-len-requires
sum_lengths-len-requires c = search (keeping, rules)

pub returns : goal.returns
returns c = search (keeping, rules)
