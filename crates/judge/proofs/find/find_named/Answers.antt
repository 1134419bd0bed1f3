use Rattle.std.proofs.Common.{rules}
use Rattle.judge.proofs.Finding.{naming}
use Rattle.judge.proofs.find.find_named.Goals as goal

pub bounds-name-0 : goal.bounds-name-0
bounds-name-0 c = search (naming, rules)

pub returns : goal.returns
returns c = search (naming, rules)
