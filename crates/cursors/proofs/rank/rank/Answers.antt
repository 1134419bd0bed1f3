use Rattle.std.proofs.Common.{rules}
use Rattle.cursors.proofs.Ranking.{ranking}
use Rattle.cursors.proofs.rank.rank.Goals as goal

pub returns-then-both_at : goal.returns-then-both_at
returns-then-both_at c = search (ranking, rules)
