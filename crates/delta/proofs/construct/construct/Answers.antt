use Rattle.std.proofs.lemmas.Result.{err_from_is_err_and}
use Rattle.std.proofs.Common.{rules}
use Rattle.delta.proofs.Answering.{constructing}
use Rattle.delta.proofs.construct.construct.Goals as goal

pub returns-in_err-admit : goal.returns-in_err-admit
returns-in_err-admit c = let p = err_from_is_err_and c.from_residual.result c.from_residual.ensures.1 in rw (p.1, p.2) (search (constructing, rules))

pub put_whole-requires : goal.put_whole-requires
put_whole-requires c = search (constructing, rules)

pub returns-in_default : goal.returns-in_default
returns-in_default c = search (constructing, rules)

pub returns-then-counts-eq0 : goal.returns-then-counts-eq0
returns-then-counts-eq0 c = search (constructing, rules)

pub returns : goal.returns
returns c = search (constructing, rules)
