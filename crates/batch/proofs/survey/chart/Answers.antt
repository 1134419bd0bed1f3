use Rattle.std.proofs.Common.{rules}
use Rattle.batch.proofs.Surveying.{charting}
use Rattle.batch.proofs.survey.chart.Goals as goal

pub sort_first-requires : goal.sort_first-requires
sort_first-requires c = search (charting, rules)

pub returns : goal.returns
returns c = search (charting, rules)
