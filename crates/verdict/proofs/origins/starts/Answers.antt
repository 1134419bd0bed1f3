use Rattle.std.proofs.Common.{rules}
use Rattle.verdict.proofs.Fieldwords.{heading}
use Rattle.verdict.proofs.origins.starts.Goals as goal

pub returns-then-start-one : goal.returns-then-start-one
returns-then-start-one c = search (heading, rules)

pub returns : goal.returns
returns c = search (heading, rules)
