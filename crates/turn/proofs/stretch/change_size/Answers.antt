use Rattle.std.proofs.Common.{rules}
use Rattle.turn.proofs.Stretching.{change_sizes}
use Rattle.turn.proofs.stretch.change_size.Goals as goal

pub returns-then-s-at-eq17 : goal.returns-then-s-at-eq17
returns-then-s-at-eq17 c = search (change_sizes, rules)

pub returns-then-s-at-eq18 : goal.returns-then-s-at-eq18
returns-then-s-at-eq18 c = search (change_sizes, rules)
