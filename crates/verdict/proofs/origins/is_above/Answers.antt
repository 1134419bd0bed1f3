use Rattle.std.proofs.Common.{rules}
use Rattle.verdict.proofs.Fieldwords.{lowering}
use Rattle.verdict.proofs.origins.is_above.Goals as goal

pub returns-then-t-u : goal.returns-then-t-u
returns-then-t-u c = search (lowering, rules)

pub returns-then-u-t : goal.returns-then-u-t
returns-then-u-t c = search (lowering, rules)

pub returns-then-v-w : goal.returns-then-v-w
returns-then-v-w c = search (lowering, rules)

pub returns-then-w-v : goal.returns-then-w-v
returns-then-w-v c = search (lowering, rules)

pub returns-then-x-y : goal.returns-then-x-y
returns-then-x-y c = search (lowering, rules)

pub returns-then-y-x : goal.returns-then-y-x
returns-then-y-x c = search (lowering, rules)

pub returns : goal.returns
returns c = search (lowering, rules)
