use Rattle.std.proofs.Common.{rules}
use Rattle.cursors.proofs.Lows.{finding}
use Rattle.cursors.proofs.eights.Eights.find.Goals as goal

pub loop-r-preserved : goal.loop-r-preserved
loop-r-preserved c = search (finding, rules)
