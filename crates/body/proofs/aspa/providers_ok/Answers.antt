use Rattle.std.proofs.Common.{rules}
use Rattle.body.proofs.Bodies.{bodies}
use Rattle.body.proofs.aspa.providers_ok.Goals as goal

pub returns-then-not-sized : goal.returns-then-not-sized
returns-then-not-sized c = search (bodies, rules)

pub returns : goal.returns
returns c = search (bodies, rules)
