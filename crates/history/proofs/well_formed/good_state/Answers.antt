use Rattle.std.proofs.Common.{rules}
use Rattle.history.proofs.Forming.{stating}
use Rattle.history.proofs.well_formed.good_state.Goals as goal

pub returns-then-good_serial : goal.returns-then-good_serial
returns-then-good_serial c = search (stating, rules)

pub returns-else-good_serial : goal.returns-else-good_serial
returns-else-good_serial c = search (stating, rules)
