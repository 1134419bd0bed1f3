use Rattle.std.proofs.Common.{rules}
use Rattle.heard.proofs.Hearing.{hearing}
use Rattle.heard.proofs.hear.hear.Goals as goal

pub returns-then-not-is_open : goal.returns-then-not-is_open
returns-then-not-is_open c = search (hearing, rules)

pub loop-stop-init : goal.loop-stop-init
loop-stop-init c = search (hearing, rules)

pub returns-in-Some : goal.returns-in-Some
returns-in-Some c = search (hearing, rules)

pub loop-stop-preserved : goal.loop-stop-preserved
loop-stop-preserved c = search (hearing, rules)
