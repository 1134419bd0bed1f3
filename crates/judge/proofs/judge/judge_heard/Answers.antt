use Rattle.std.proofs.Common.{rules}
use Rattle.judge.proofs.Judging.{judging_heard}
use Rattle.judge.proofs.judge.judge_heard.Goals as goal

pub least_fault-least-requires : goal.least_fault-least-requires
least_fault-least-requires c = search (judging_heard, rules)

pub misfit-requires : goal.misfit-requires
misfit-requires c = search (judging_heard, rules)

pub returns-then-least-over : goal.returns-then-least-over
returns-then-least-over c = search (judging_heard, rules)

pub returns-in-Err : goal.returns-in-Err
returns-in-Err c = search (judging_heard, rules)

pub put_all-requires : goal.put_all-requires
put_all-requires c = search (judging_heard, rules)

pub returns-in_default : goal.returns-in_default
returns-in_default c = search (judging_heard, rules)

pub returns : goal.returns
returns c = search (judging_heard, rules)
