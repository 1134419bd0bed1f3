use Rattle.std.proofs.Common.{rules}
use Rattle.verdict.proofs.Fieldwords.{judging_words}
use Rattle.verdict.proofs.origins.six_ok.Goals as goal

pub returns-then-maximum-prefix : goal.returns-then-maximum-prefix
returns-then-maximum-prefix c = search (judging_words, rules)

pub returns-then-maximum-gt128 : goal.returns-then-maximum-gt128
returns-then-maximum-gt128 c = search (judging_words, rules)

pub returns : goal.returns
returns c = search (judging_words, rules)
