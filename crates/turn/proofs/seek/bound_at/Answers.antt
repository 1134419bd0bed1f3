use Rattle.std.proofs.Common.{rules}
use Rattle.turn.proofs.Seeking.{bounding}
use Rattle.turn.proofs.seek.bound_at.Goals as goal

pub returns-then-delta-j : goal.returns-then-delta-j
returns-then-delta-j c = search (bounding, rules)

pub returns-then-delta-j-lt11 : goal.returns-then-delta-j-lt11
returns-then-delta-j-lt11 c = search (bounding, rules)

pub returns : goal.returns
returns c = search (bounding, rules)
