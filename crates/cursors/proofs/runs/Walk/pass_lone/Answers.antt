use Rattle.std.proofs.Common.{rules}
use Rattle.cursors.proofs.Passing.{lone_passing}
use Rattle.cursors.proofs.runs.Walk.pass_lone.Goals as goal

pub returns-then-self-p : goal.returns-then-self-p
returns-then-self-p c = search (lone_passing, rules)
