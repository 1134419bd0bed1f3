use Rattle.std.proofs.Common.{rules}
use Rattle.body.proofs.Prefixes.{origins}
use Rattle.body.proofs.origin.prefix_ok.Goals as goal

pub returns-then-maximum-prefix : goal.returns-then-maximum-prefix
returns-then-maximum-prefix c = search (origins, rules)

pub returns-then-bound-maximum : goal.returns-then-bound-maximum
returns-then-bound-maximum c = search (origins, rules)

pub returns : goal.returns
returns c = search (origins, rules)
