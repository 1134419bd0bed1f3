use Rattle.std.proofs.Common.{rules}
use Rattle.heard.proofs.Checking.{checking}
use Rattle.heard.proofs.check.is_payload.Goals as goal

pub returns-then-size-ne20 : goal.returns-then-size-ne20
returns-then-size-ne20 c = search (checking, rules)

pub returns-then-s-at-gt1 : goal.returns-then-s-at-gt1
returns-then-s-at-gt1 c = search (checking, rules)

pub returns-then-size-ne32 : goal.returns-then-size-ne32
returns-then-size-ne32 c = search (checking, rules)

pub returns-then-s-at-gt1-2 : goal.returns-then-s-at-gt1-2
returns-then-s-at-gt1-2 c = search (checking, rules)

pub returns-then-not-is_spoken : goal.returns-then-not-is_spoken
returns-then-not-is_spoken c = search (checking, rules)

pub returns-then-size-lt32 : goal.returns-then-size-lt32
returns-then-size-lt32 c = search (checking, rules)

pub returns-then-s-at-gt1-3 : goal.returns-then-s-at-gt1-3
returns-then-s-at-gt1-3 c = search (checking, rules)

pub returns-else-s-at-gt1 : goal.returns-else-s-at-gt1
returns-else-s-at-gt1 c = search (checking, rules)

pub returns-else-s-at-gt1-2 : goal.returns-else-s-at-gt1-2
returns-else-s-at-gt1-2 c = search (checking, rules)

pub returns-else-s-at-gt1-3 : goal.returns-else-s-at-gt1-3
returns-else-s-at-gt1-3 c = search (checking, rules)

pub returns-in_default : goal.returns-in_default
returns-in_default c = search (checking, rules)
