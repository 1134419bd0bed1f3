use Rattle.std.proofs.Common.{rules}
use Rattle.judge.proofs.Writing.{writes_one}
use Rattle.judge.proofs.write.write_one.Goals as goal

pub returns-then-is_next : goal.returns-then-is_next
returns-then-is_next c = search (writes_one, rules)

pub settle-end-requires : goal.settle-end-requires
settle-end-requires c = search (writes_one, rules)

pub overflow_add-result : goal.overflow_add-result
overflow_add-result c = search (writes_one, rules)

pub returns : goal.returns
returns c = search (writes_one, rules)
