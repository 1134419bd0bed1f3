use Rattle.std.proofs.Common.{rules}
use Rattle.verdict.proofs.Fieldwords.{judging_words}
use Rattle.verdict.proofs.origins.field_ok.Goals as goal

pub returns-then-starts : goal.returns-then-starts
returns-then-starts c = search (judging_words, rules)

pub returns : goal.returns
returns c = search (judging_words, rules)
