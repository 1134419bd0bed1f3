use Rattle.std.proofs.Common.{rules}
use Rattle.cursors.proofs.Stepping.{stepping}
use Rattle.cursors.proofs.runs.Walk.next.Goals as goal

pub returns-in_default : goal.returns-in_default
returns-in_default c = search (stepping, rules)

pub returns-in-Some-held : goal.returns-in-Some-held
returns-in-Some-held c = search (stepping, rules)

pub loop-lead-smaller : goal.loop-lead-smaller
loop-lead-smaller c = search (stepping, rules)

pub loop-lead-preserved : goal.loop-lead-preserved
loop-lead-preserved c = search (stepping, rules)
