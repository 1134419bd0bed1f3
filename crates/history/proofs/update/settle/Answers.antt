use Rattle.std.proofs.Common.{rules}
use Rattle.history.proofs.Updating.{updating}
use Rattle.history.proofs.update.settle.Goals as goal

pub returns-in-Err : goal.returns-in-Err
returns-in-Err c = search (updating, rules)

pub accept-requires : goal.accept-requires
accept-requires c = search (updating, rules)
