use Rattle.std.proofs.Common.{rules}
use Rattle.verdict.proofs.Fieldwords.{judging_words}
use Rattle.verdict.proofs.origins.four_ok.Goals as goal

pub returns : goal.returns
returns c = search (judging_words, rules)
