use Rattle.std.proofs.Common.{rules}
use Rattle.turn.proofs.Turning.{turning}
use Rattle.turn.proofs.turn.take_turn.Goals as goal

pub returns-in-Equal : goal.returns-in-Equal
returns-in-Equal c = search (turning, rules)

pub returns-in-Greater : goal.returns-in-Greater
returns-in-Greater c = search (turning, rules)
