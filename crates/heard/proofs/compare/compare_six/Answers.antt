use Rattle.std.proofs.Common.{rules}
use Rattle.heard.proofs.Comparing.{sixes}
use Rattle.heard.proofs.compare.compare_six.Goals as goal

pub returns-in-Less : goal.returns-in-Less
returns-in-Less c = search (sixes, rules)

pub returns-in-Equal : goal.returns-in-Equal
returns-in-Equal c = search (sixes, rules)

pub returns-in-Greater : goal.returns-in-Greater
returns-in-Greater c = search (sixes, rules)
