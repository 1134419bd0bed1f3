use Rattle.std.proofs.Common.{rules}
use Rattle.judge.proofs.Judging.{putting_all}
use Rattle.judge.proofs.judge.put_all.Goals as goal

pub returns : goal.returns
returns c = search (putting_all, rules)
