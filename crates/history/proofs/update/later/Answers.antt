use Rattle.std.proofs.Common.{rules}
use Rattle.history.proofs.Updating.{lasting}
use Rattle.history.proofs.update.later.Goals as goal

pub difference-counts-requires : goal.difference-counts-requires
difference-counts-requires c = search (lasting, rules)

pub returns-then-counts-eq0 : goal.returns-then-counts-eq0
returns-then-counts-eq0 c = search (lasting, rules)

pub kept_of-kept-requires : goal.kept_of-kept-requires
kept_of-kept-requires c = search (lasting, rules)

pub returns-then-snapshots-new : goal.returns-then-snapshots-new
returns-then-snapshots-new c = search (lasting, rules)

pub overflow_sub-deltas : goal.overflow_sub-deltas
overflow_sub-deltas c = search (lasting, rules)

pub returns-then-deltas-kept : goal.returns-then-deltas-kept
returns-then-deltas-kept c = search (lasting, rules)
