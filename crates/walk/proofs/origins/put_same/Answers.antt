use Rattle.std.proofs.Common.{rules}
use Rattle.walk.proofs.OriginTurns.{same}
use Rattle.walk.proofs.origins.put_same.Goals as goal

pub returns-then-a-i : goal.returns-then-a-i
returns-then-a-i c = search (same, rules)
