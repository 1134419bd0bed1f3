use Rattle.std.proofs.Common.{rules}
use Rattle.batch.proofs.Surveying.{lining}
use Rattle.batch.proofs.survey.line_up.Goals as goal

pub returns : goal.returns
returns c = search (lining, rules)
