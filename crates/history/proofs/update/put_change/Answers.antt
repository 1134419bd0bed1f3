use Rattle.std.proofs.Common.{rules}
use Rattle.history.proofs.Updating.{laying}
use Rattle.history.proofs.update.put_change.Goals as goal

pub slice_bounds-push_delta-end : goal.slice_bounds-push_delta-end
slice_bounds-push_delta-end c = search (laying, rules)

pub push_delta-requires : goal.push_delta-requires
push_delta-requires c = search (laying, rules)

pub returns : goal.returns
returns c = search (laying, rules)
