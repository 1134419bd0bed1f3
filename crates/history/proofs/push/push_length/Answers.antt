use Rattle.std.proofs.Common.{rules}
use Rattle.history.proofs.Pushing.{shifting}
use Rattle.history.proofs.push.push_length.Goals as goal

pub loop-i-preserved : goal.loop-i-preserved
loop-i-preserved c = search (shifting, rules)

pub returns : goal.returns
returns c = search (shifting, rules)
