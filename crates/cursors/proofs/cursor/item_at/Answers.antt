use Rattle.std.proofs.Common.{rules}
use Rattle.cursors.proofs.Standing.{heading}
use Rattle.cursors.proofs.cursor.item_at.Goals as goal

pub returns : goal.returns
returns c = search (heading, rules)
