use Rattle.std.proofs.lemmas.Result.{err_from_is_err_and}
use Rattle.std.proofs.Common.{rules}
use Rattle.delta.proofs.Answering.{merging}
use Rattle.delta.proofs.merge.merge.Goals as goal

pub returns-in_err-admit : goal.returns-in_err-admit
returns-in_err-admit c = let p = err_from_is_err_and c.from_residual.result c.from_residual.ensures.1 in rw (p.1, p.2) (search (merging, rules))

pub put_whole-requires : goal.put_whole-requires
put_whole-requires c = search (merging, rules)

pub returns-in_default : goal.returns-in_default
returns-in_default c = search (merging, rules)

pub returns : goal.returns
returns c = search (merging, rules)
