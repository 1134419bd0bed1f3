use Rattle.std.proofs.Common.{rules}
use Rattle.cursors.proofs.Lows.{lowest_eight}
use Rattle.cursors.proofs.eights.Eights.lowest.Goals as goal

pub returns : goal.returns
returns c = search (lowest_eight, rules)
