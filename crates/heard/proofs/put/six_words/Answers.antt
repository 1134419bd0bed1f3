use Rattle.std.proofs.Common.{rules}
use Rattle.heard.proofs.Putting.{wording}
use Rattle.heard.proofs.put.six_words.Goals as goal

pub returns : goal.returns
returns c = search (wording, rules)
