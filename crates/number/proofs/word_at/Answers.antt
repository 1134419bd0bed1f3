use Rattle.std.proofs.Common.{rules}
use Rattle.number.proofs.Eights.{word_read}
use Rattle.number.proofs.word_at.Goals as goal

pub returns : goal.returns
returns c = search (word_read, rules)
