use Rattle.std.proofs.Common.{rules}
use Rattle.walk.proofs.Lengths.{sizing}
use Rattle.walk.proofs.walk.size_of.Goals as goal

pub returns : goal.returns
returns c = search (sizing, rules)
