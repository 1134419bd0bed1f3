use Rattle.std.proofs.Common.{rules}
use Rattle.walk.proofs.Walking.{stepping}
use Rattle.walk.proofs.walk.put_turn.Goals as goal

pub returns-in-Left : goal.returns-in-Left
returns-in-Left c = search (stepping, rules)

pub returns-in-Right : goal.returns-in-Right
returns-in-Right c = search (stepping, rules)

pub returns-in-Both : goal.returns-in-Both
returns-in-Both c = search (stepping, rules)
