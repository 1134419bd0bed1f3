use Rattle.std.proofs.Common.{rules}
use Rattle.body.proofs.Bodies.{bodies}
use Rattle.body.proofs.aspa.aspa_ok.Goals as goal

pub returns-then-body-lt4 : goal.returns-then-body-lt4
returns-then-body-lt4 c = search (bodies, rules)

pub returns : goal.returns
returns c = search (bodies, rules)
