use Rattle.std.proofs.Common.{rules}
use Rattle.body.proofs.Bodies.{bodies}
use Rattle.body.proofs.router_key.router_key_ok.Goals as goal

pub returns-then-body-lt24 : goal.returns-then-body-lt24
returns-then-body-lt24 c = search (bodies, rules)

pub returns : goal.returns
returns c = search (bodies, rules)
