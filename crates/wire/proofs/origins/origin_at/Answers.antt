use Rattle.std.proofs.Common.{rules}
use Rattle.wire.proofs.Running.{origins_at}
use Rattle.wire.proofs.origins.origin_at.Goals as goal

pub returns-then-s-at-eq1 : goal.returns-then-s-at-eq1
returns-then-s-at-eq1 c = search (origins_at, rules)
