use Rattle.std.proofs.Common.{rules}
use Rattle.cursors.proofs.Saying.{asking}
use Rattle.cursors.proofs.said.ask.Goals as goal

pub returns-in-Equal : goal.returns-in-Equal
returns-in-Equal c = search (asking, rules)
