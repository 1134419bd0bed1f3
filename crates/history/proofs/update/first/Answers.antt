use Rattle.std.proofs.Common.{rules}
use Rattle.history.proofs.Updating.{beginning}
use Rattle.history.proofs.update.first.Goals as goal

pub returns-then-snapshots-new : goal.returns-then-snapshots-new
returns-then-snapshots-new c = search (beginning, rules)

pub returns : goal.returns
returns c = search (beginning, rules)
