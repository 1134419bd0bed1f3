use Rattle.std.proofs.Common.{rules}
use Rattle.reader.proofs.Counting.{passing}
use Rattle.reader.proofs.count.count.Goals as goal

pub plus-tally-requires : goal.plus-tally-requires
plus-tally-requires c = search (passing, rules)

pub loop-tag-smaller : goal.loop-tag-smaller
loop-tag-smaller c = search (passing, rules)

pub loop-tag-preserved : goal.loop-tag-preserved
loop-tag-preserved c = search (passing, rules)

pub returns : goal.returns
returns c = search (passing, rules)
