use Rattle.std.proofs.Common.{rules}
use Rattle.walk.proofs.Passing.{passing}
use Rattle.walk.proofs.pass.put_pass.Goals as goal

pub returns-in_default : goal.returns-in_default
returns-in_default c = search (passing, rules)
