use Rattle.std.proofs.Common.{rules}
use Rattle.wire.proofs.Looping.{listing}
use Rattle.wire.proofs.snapshot.put_items.Goals as goal

pub loop-entry-init : goal.loop-entry-init
loop-entry-init c = search (listing, rules)

pub returns-in_default : goal.returns-in_default
returns-in_default c = search (listing, rules)

pub loop-entry-preserved : goal.loop-entry-preserved
loop-entry-preserved c = search (listing, rules)
