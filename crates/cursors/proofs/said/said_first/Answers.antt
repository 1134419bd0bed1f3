use Rattle.std.proofs.Common.{rules}
use Rattle.cursors.proofs.Ranking.{ranking_items, ranking}
use Rattle.cursors.proofs.Saying.{first_saying}
use Rattle.cursors.proofs.said.said_first.Goals as goal

pub returns-then-origin_at : goal.returns-then-origin_at
returns-then-origin_at c = search (ranking_items, ranking, first_saying, rules)

pub returns : goal.returns
returns c = search (ranking_items, ranking, first_saying, rules)
