use Rattle.std.proofs.Common.{rules}
use Rattle.turn.proofs.Stretching.{stretching}
use Rattle.turn.proofs.stretch.seek_changes.Goals as goal

pub returns-then-bound-change_front : goal.returns-then-bound-change_front
returns-then-bound-change_front c = search (stretching, rules)

pub loop-at-preserved : goal.loop-at-preserved
loop-at-preserved c = search (stretching, rules)

pub returns : goal.returns
returns c = search (stretching, rules)
