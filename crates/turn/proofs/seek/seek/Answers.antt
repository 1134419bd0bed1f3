use Rattle.std.proofs.Common.{rules}
use Rattle.turn.proofs.Seeking.{seeking}
use Rattle.turn.proofs.seek.seek.Goals as goal

pub loop-at-preserved : goal.loop-at-preserved
loop-at-preserved c = search (seeking, rules)
