use Rattle.std.proofs.Common.{rules}
use Rattle.fit.proofs.Fitting.{turns}
use Rattle.fit.proofs.fit_turn.Goals as goal

pub returns-then-not-fits_absent : goal.returns-then-not-fits_absent
returns-then-not-fits_absent c = search (turns, rules)

pub returns-then-not-fits_held : goal.returns-then-not-fits_held
returns-then-not-fits_held c = search (turns, rules)

pub returns-in-Over : goal.returns-in-Over
returns-in-Over c = search (turns, rules)

pub returns-in-Left : goal.returns-in-Left
returns-in-Left c = search (turns, rules)

pub returns-else-not-fits_absent : goal.returns-else-not-fits_absent
returns-else-not-fits_absent c = search (turns, rules)

pub returns-else-not-fits_held : goal.returns-else-not-fits_held
returns-else-not-fits_held c = search (turns, rules)
