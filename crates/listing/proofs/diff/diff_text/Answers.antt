use Rattle.std.proofs.Common.{rules}
use Rattle.listing.proofs.Answering.{diffing}
use Rattle.listing.proofs.diff.diff_text.Goals as goal

pub write_report-requires : goal.write_report-requires
write_report-requires c = search (diffing, rules)

pub returns : goal.returns
returns c = search (diffing, rules)
