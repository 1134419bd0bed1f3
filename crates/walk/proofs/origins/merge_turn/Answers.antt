use Rattle.std.proofs.Common.{rules}
use Rattle.walk.proofs.OriginTurns.{turning}
use Rattle.walk.proofs.origins.merge_turn.Goals as goal

pub returns-in-Less : goal.returns-in-Less
returns-in-Less c = search (turning, rules)

pub returns-in-Greater : goal.returns-in-Greater
returns-in-Greater c = search (turning, rules)

pub returns-in-Equal : goal.returns-in-Equal
returns-in-Equal c = search (turning, rules)
