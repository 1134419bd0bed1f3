use Rattle.std.proofs.Common.{rules}
use Rattle.history.proofs.Forming.{forming}
use Rattle.history.proofs.well_formed.well_formed.Goals as goal

pub good_deltas-requires : goal.good_deltas-requires
good_deltas-requires c = search (forming, rules)

pub returns-then-good_snapshot : goal.returns-then-good_snapshot
returns-then-good_snapshot c = search (forming, rules)

pub returns-else-good_snapshot : goal.returns-else-good_snapshot
returns-else-good_snapshot c = search (forming, rules)
