use Rattle.std.proofs.Common.{rules}
use Rattle.turn.proofs.Skipping.{eights}
use Rattle.turn.proofs.skip.same_eight.Goals as goal

pub returns : goal.returns
returns c = search (eights, rules)
