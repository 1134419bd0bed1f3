use Rattle.std.proofs.Common.{rules}
use Rattle.history.proofs.Forming.{snapshots}
use Rattle.history.proofs.well_formed.good_snapshot.Goals as goal

pub returns-then-n-snapshots : goal.returns-then-n-snapshots
returns-then-n-snapshots c = search (snapshots, rules)

pub returns-else-n-snapshots : goal.returns-else-n-snapshots
returns-else-n-snapshots c = search (snapshots, rules)
