use Rattle.std.proofs.Common.{rules}
use Rattle.walk.proofs.OriginTurns.{origins_at}
use Rattle.walk.proofs.origins.origin_at.Goals as goal

pub returns-then-s-at-eq17 : goal.returns-then-s-at-eq17
returns-then-s-at-eq17 c = search (origins_at, rules)

pub returns : goal.returns
returns c = search (origins_at, rules)
