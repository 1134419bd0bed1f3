use Rattle.std.proofs.Common.{rules}
use Rattle.merged.proofs.Placing.{placing}
use Rattle.merged.proofs.place.place_all.Goals as goal

pub loop-i-preserved : goal.loop-i-preserved
loop-i-preserved c = search (placing, rules)
