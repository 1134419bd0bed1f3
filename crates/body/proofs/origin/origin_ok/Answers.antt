use Rattle.std.proofs.Common.{rules}
use Rattle.body.proofs.Prefixes.{origins}
use Rattle.body.proofs.origin.origin_ok.Goals as goal

pub returns-then-body-ne23 : goal.returns-then-body-ne23
returns-then-body-ne23 c = search (origins, rules)

pub returns-in-4 : goal.returns-in-4
returns-in-4 c = search (origins, rules)

pub returns-in-6 : goal.returns-in-6
returns-in-6 c = search (origins, rules)

pub returns-in_default : goal.returns-in_default
returns-in_default c = search (origins, rules)
