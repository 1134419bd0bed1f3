use Rattle.std.proofs.lemmas.Result.{err_from_is_err_and}
use Rattle.std.proofs.Common.{rules}
use Rattle.delta.proofs.Answering.{applying}
use Rattle.delta.proofs.apply.apply.Goals as goal

pub returns-in_err-admit : goal.returns-in_err-admit
returns-in_err-admit c = let p = err_from_is_err_and c.from_residual.result c.from_residual.ensures.1 in rw (p.1, p.2) (search (applying, rules))

pub first_misfit-requires : goal.first_misfit-requires
first_misfit-requires c = search (applying, rules)

pub returns-in-Some : goal.returns-in-Some
returns-in-Some c = search (applying, rules)

pub put_whole-requires : goal.put_whole-requires
put_whole-requires c = search (applying, rules)

pub returns-in_default-put_whole : goal.returns-in_default-put_whole
returns-in_default-put_whole c = search (applying, rules)

pub returns : goal.returns
returns c = search (applying, rules)
