use Rattle.std.proofs.Common.{rules}
use Rattle.walk.proofs.OriginTurns.{comparing}
use Rattle.walk.proofs.origins.origin_compare.Goals as goal

pub returns : goal.returns
returns c = search (comparing, rules)
