use Rattle.std.proofs.Common.{rules}
use Rattle.serial.proofs.Standing.{standings}
use Rattle.serial.proofs.order.compare.Goals as goal

pub returns-then-ahead-eq0 : goal.returns-then-ahead-eq0
returns-then-ahead-eq0 c = search (standings, rules)

pub returns-then-ahead-lt-HALF : goal.returns-then-ahead-lt-HALF
returns-then-ahead-lt-HALF c = search (standings, rules)

pub returns-then-ahead : goal.returns-then-ahead
returns-then-ahead c = search (standings, rules)

pub returns : goal.returns
returns c = search (standings, rules)
