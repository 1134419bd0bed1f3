use Rattle.std.proofs.Common.{rules}
use Rattle.cursors.proofs.Lining.{lining}
use Rattle.cursors.proofs.runs.Walk.new.Goals as goal

pub loop-r-init : goal.loop-r-init
loop-r-init c = search (lining, rules)
