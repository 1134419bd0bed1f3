use Rattle.std.proofs.Common.{rules}
use Rattle.verdict.proofs.Fieldwords.{nexting}
use Rattle.verdict.proofs.origins.next_words.Goals as goal

pub returns : goal.returns
returns c = search (nexting, rules)
