use Rattle.std.proofs.Common.{rules}
use Rattle.appliance.proofs.Repeating.{repeating}
use Rattle.appliance.proofs.repeat.repeat_bytes.Goals as goal

pub loop-k-preserved : goal.loop-k-preserved
loop-k-preserved c = search (repeating, rules)
