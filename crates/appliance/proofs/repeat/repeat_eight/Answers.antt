use Rattle.std.proofs.Common.{rules}
use Rattle.appliance.proofs.Repeating.{eight}
use Rattle.appliance.proofs.repeat.repeat_eight.Goals as goal

pub returns : goal.returns
returns c = search (eight, rules)
