use Rattle.std.proofs.Common.{rules}
use Rattle.fit.proofs.Fitting.{resting}
use Rattle.fit.proofs.fit_rest.Goals as goal

pub returns-then-not-fits_absent : goal.returns-then-not-fits_absent
returns-then-not-fits_absent c = search (resting, rules)

pub loop-y-preserved : goal.loop-y-preserved
loop-y-preserved c = search (resting, rules)

pub returns : goal.returns
returns c = search (resting, rules)
