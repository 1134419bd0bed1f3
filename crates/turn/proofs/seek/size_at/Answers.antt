use Rattle.std.proofs.Common.{rules}
use Rattle.turn.proofs.Seeking.{sizes}
use Rattle.turn.proofs.seek.size_at.Goals as goal

pub returns-then-s-at-eq1 : goal.returns-then-s-at-eq1
returns-then-s-at-eq1 c = search (sizes, rules)
