use Rattle.std.proofs.Common.{rules}
use Rattle.cursors.proofs.Lows.{settling}
use Rattle.cursors.proofs.eights.Eights.settle.Goals as goal

pub returns : goal.returns
returns c = search (settling, rules)
