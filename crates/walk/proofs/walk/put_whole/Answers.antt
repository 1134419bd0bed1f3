use Rattle.std.proofs.Common.{rules}
use Rattle.walk.proofs.Walking.{whole}
use Rattle.walk.proofs.Lengths.{surely}
use Rattle.walk.proofs.walk.put_whole.Goals as goal

pub returns-then-size_of-out : goal.returns-then-size_of-out
returns-then-size_of-out c = search (whole, surely, rules)

pub returns : goal.returns
returns c = search (whole, surely, rules)
