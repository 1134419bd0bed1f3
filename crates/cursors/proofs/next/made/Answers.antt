use Rattle.std.proofs.Common.{rules}
use Rattle.cursors.proofs.Stepping.{making}
use Rattle.cursors.proofs.next.made.Goals as goal

pub returns : goal.returns
returns c = search (making, rules)
