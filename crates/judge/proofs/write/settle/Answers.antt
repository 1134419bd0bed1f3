use Rattle.std.proofs.Common.{rules}
use Rattle.judge.proofs.Writing.{settling}
use Rattle.judge.proofs.write.settle.Goals as goal

pub returns-then-last-eq0 : goal.returns-then-last-eq0
returns-then-last-eq0 c = search (settling, rules)

pub returns-then-not-announces : goal.returns-then-not-announces
returns-then-not-announces c = search (settling, rules)

pub put_record-requires : goal.put_record-requires
put_record-requires c = search (settling, rules)

pub overflow_add-result : goal.overflow_add-result
overflow_add-result c = search (settling, rules)

pub returns : goal.returns
returns c = search (settling, rules)
