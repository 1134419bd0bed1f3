use Rattle.std.proofs.Common.{rules}
use Rattle.listing.proofs.Reporting.{writing}
use Rattle.listing.proofs.report.write_report.Goals as goal

pub returns : goal.returns
returns c = search (writing, rules)
