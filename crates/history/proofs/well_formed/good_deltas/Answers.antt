use Rattle.std.proofs.Common.{rules}
use Rattle.history.proofs.Forming.{storing}
use Rattle.history.proofs.well_formed.good_deltas.Goals as goal

pub returns-then-within_limit : goal.returns-then-within_limit
returns-then-within_limit c = search (storing, rules)

pub returns-else-within_limit : goal.returns-else-within_limit
returns-else-within_limit c = search (storing, rules)
