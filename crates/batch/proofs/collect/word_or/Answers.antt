use Rattle.std.proofs.Common.{rules}
use Rattle.batch.proofs.Collecting.{worded}
use Rattle.batch.proofs.collect.word_or.Goals as goal

pub returns-then-x-eq0 : goal.returns-then-x-eq0
returns-then-x-eq0 c = search (worded, rules)

pub returns-then-type_at-ne6 : goal.returns-then-type_at-ne6
returns-then-type_at-ne6 c = search (worded, rules)

pub returns : goal.returns
returns c = search (worded, rules)
