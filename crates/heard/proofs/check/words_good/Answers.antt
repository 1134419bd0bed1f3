use Rattle.std.proofs.Common.{rules}
use Rattle.heard.proofs.Checking.{goods}
use Rattle.heard.proofs.check.words_good.Goals as goal

pub returns : goal.returns
returns c = search (goods, rules)
