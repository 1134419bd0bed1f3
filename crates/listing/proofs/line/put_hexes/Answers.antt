use Rattle.std.proofs.Common.{rules}
use Rattle.listing.proofs.Lining.{hexing}
use Rattle.listing.proofs.line.put_hexes.Goals as goal

pub loop-x-preserved : goal.loop-x-preserved
loop-x-preserved c = search (hexing, rules)

pub returns : goal.returns
returns c = search (hexing, rules)
