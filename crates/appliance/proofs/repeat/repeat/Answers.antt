use Rattle.std.proofs.Common.{rules}
use Rattle.appliance.proofs.Repeating.{parts}
use Rattle.appliance.proofs.repeat.repeat.Goals as goal

pub returns : goal.returns
returns c = search (parts, rules)
