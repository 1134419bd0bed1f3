use Rattle.std.proofs.Common.{rules}
use Rattle.walk.proofs.Walking.{both_sides}
use Rattle.walk.proofs.walk.put_both.Goals as goal

pub returns-in-None : goal.returns-in-None
returns-in-None c = search (both_sides, rules)

pub returns-in-Some : goal.returns-in-Some
returns-in-Some c = search (both_sides, rules)
