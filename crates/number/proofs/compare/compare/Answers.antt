use Rattle.std.proofs.Common.{rules}
use Rattle.number.proofs.Eights.{words}
use Rattle.number.proofs.compare.compare.Goals as goal

pub returns-then-x-y : goal.returns-then-x-y
returns-then-x-y c = search (words, rules)

pub returns-then-y-x : goal.returns-then-y-x
returns-then-y-x c = search (words, rules)

pub loop-i-preserved : goal.loop-i-preserved
loop-i-preserved c = search (words, rules)

pub returns : goal.returns
returns c = search (words, rules)
