use Rattle.std.proofs.Common.{rules}
use Rattle.heard.proofs.Checking.{goods}
use Rattle.heard.proofs.check.four_good.Goals as goal

pub words_good-requires : goal.words_good-requires
words_good-requires c = search (goods, rules)

pub returns : goal.returns
returns c = search (goods, rules)
