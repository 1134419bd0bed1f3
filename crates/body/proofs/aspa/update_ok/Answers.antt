use Rattle.std.proofs.Common.{rules}
use Rattle.body.proofs.Bodies.{bodies}
use Rattle.body.proofs.aspa.update_ok.Goals as goal

pub returns-then-body-lt6 : goal.returns-then-body-lt6
returns-then-body-lt6 c = search (bodies, rules)

pub returns-then-body-size : goal.returns-then-body-size
returns-then-body-size c = search (bodies, rules)

pub returns-then-not-providers_ok : goal.returns-then-not-providers_ok
returns-then-not-providers_ok c = search (bodies, rules)

pub returns : goal.returns
returns c = search (bodies, rules)
