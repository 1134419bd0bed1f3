use Rattle.std.proofs.lemmas.Result.{err_from_is_err_and}
use Rattle.std.proofs.Common.{rules}
use Rattle.listing.proofs.Answering.{entering}
use Rattle.listing.proofs.listing.listing.Goals as goal

pub returns-in_err-admit_one : goal.returns-in_err-admit_one
returns-in_err-admit_one c = let p = err_from_is_err_and c.from_residual.result c.from_residual.ensures.1 in rw (p.1, p.2) (search (entering, rules))

pub returns : goal.returns
returns c = search (entering, rules)
