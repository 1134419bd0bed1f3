use Rattle.std.proofs.Common.{rules}
use Rattle.turn.proofs.Stretching.{fronts_at}
use Rattle.turn.proofs.stretch.change_front.Goals as goal

pub returns : goal.returns
returns c = search (fronts_at, rules)
