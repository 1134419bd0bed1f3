use Rattle.std.proofs.Common.{rules}
use Rattle.history.proofs.Replying.{creating}
use Rattle.history.proofs.create.create.Goals as goal

pub returns-in-Ok : goal.returns-in-Ok
returns-in-Ok c = search (creating, rules)

pub returns-in-Err : goal.returns-in-Err
returns-in-Err c = search (creating, rules)
