use Rattle.std.proofs.Common.{rules}
use Rattle.heard.proofs.Comparing.{lasts}
use Rattle.heard.proofs.compare.four_last.Goals as goal

pub returns : goal.returns
returns c = search (lasts, rules)
