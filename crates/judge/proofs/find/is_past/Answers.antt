use Rattle.std.proofs.Common.{rules}
use Rattle.judge.proofs.Finding.{pasts}
use Rattle.judge.proofs.find.is_past.Goals as goal

pub returns-then-snapshot-at : goal.returns-then-snapshot-at
returns-then-snapshot-at c = search (pasts, rules)

pub returns : goal.returns
returns c = search (pasts, rules)
