use Rattle.std.proofs.Common.{rules}
use Rattle.history.proofs.Replying.{answering}
use Rattle.history.proofs.full.full_answer.Goals as goal

pub returns-then-not-well_formed : goal.returns-then-not-well_formed
returns-then-not-well_formed c = search (answering, rules)

pub returns : goal.returns
returns c = search (answering, rules)
