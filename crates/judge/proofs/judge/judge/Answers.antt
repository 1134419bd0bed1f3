use Rattle.std.proofs.lemmas.Result.{err_from_is_err_and}
use Rattle.std.proofs.Common.{rules}
use Rattle.judge.proofs.Judging.{judging, judge_refused, judge_left}
use Rattle.judge.proofs.judge.judge.Goals as goal

pub returns-in_err-admit_one : goal.returns-in_err-admit_one
returns-in_err-admit_one c = let p = err_from_is_err_and c.from_residual.result c.from_residual.ensures.1 in rw (p.1, p.2) (judge_refused _ _ _ c.args.out.now c.admit_one.result c.admit_one.ensures _ c.in_err-admit_one.was, judge_left c.args.version _ _ _ c.admit_one.result c.admit_one.ensures _ c.in_err-admit_one.was)

pub overflow_add-count : goal.overflow_add-count
overflow_add-count c = search (judging, rules)

pub survey-requires : goal.survey-requires
survey-requires c = search (judging, rules)
