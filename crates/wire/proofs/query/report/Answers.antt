use Rattle.std.proofs.Common.{rules}
use Rattle.wire.proofs.Sending.{reporting}
use Rattle.wire.proofs.query.report.Goals as goal

pub returns-then-out-lt28 : goal.returns-then-out-lt28
returns-then-out-lt28 c = search (reporting, rules)

pub returns : goal.returns
returns c = search (reporting, rules)
