use Rattle.std.proofs.Common.{rules}
use Rattle.heard.proofs.Comparing.{orders}
use Rattle.heard.proofs.compare.is_before_behind.Goals as goal

pub returns-in-Less : goal.returns-in-Less
returns-in-Less c = search (orders, rules)

pub returns-in-Equal : goal.returns-in-Equal
returns-in-Equal c = search (orders, rules)

pub returns-in-Greater : goal.returns-in-Greater
returns-in-Greater c = search (orders, rules)
