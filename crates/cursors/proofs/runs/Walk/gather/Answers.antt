use Rattle.std.proofs.Common.{rules}
use Rattle.cursors.proofs.Gathering.{gathering}
use Rattle.cursors.proofs.runs.Walk.gather.Goals as goal

pub loop-held-init : goal.loop-held-init
loop-held-init c = search (gathering, rules)

pub returns-then-last-p : goal.returns-then-last-p
returns-then-last-p c = search (gathering, rules)

pub loop-held-preserved : goal.loop-held-preserved
loop-held-preserved c = search (gathering, rules)
