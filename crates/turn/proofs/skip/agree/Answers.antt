use Rattle.std.proofs.Common.{rules}
use Rattle.turn.proofs.Skipping.{agreeing}
use Rattle.turn.proofs.skip.agree.Goals as goal

pub loop-k-preserved : goal.loop-k-preserved
loop-k-preserved c = search (agreeing, rules)
