use Rattle.std.proofs.Common.{rules}
use Rattle.cursors.proofs.Passing.{passing}
use Rattle.cursors.proofs.runs.Walk.pass.Goals as goal

pub returns : goal.returns
returns c = search (passing, rules)
