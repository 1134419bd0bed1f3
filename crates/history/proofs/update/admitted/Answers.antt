use Rattle.std.proofs.Common.{rules}
use Rattle.history.proofs.Updating.{admitting}
use Rattle.history.proofs.update.admitted.Goals as goal

pub returns-then-not-well_formed : goal.returns-then-not-well_formed
returns-then-not-well_formed c = search (admitting, rules)

pub returns : goal.returns
returns c = search (admitting, rules)
