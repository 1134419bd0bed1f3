use Rattle.std.proofs.Common.{rules}
use Rattle.heard.proofs.Putting.{storing}
use Rattle.heard.proofs.put.store_words.Goals as goal

pub returns : goal.returns
returns c = search (storing, rules)
