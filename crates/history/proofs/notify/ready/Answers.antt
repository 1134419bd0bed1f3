use Rattle.std.proofs.Common.{rules}
use Rattle.history.proofs.Replying.{noting}
use Rattle.history.proofs.notify.ready.Goals as goal

pub returns : goal.returns
returns c = search (noting, rules)
