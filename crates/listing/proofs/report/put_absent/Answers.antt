use Rattle.std.proofs.Common.{rules}
use Rattle.listing.proofs.Reporting.{absent}
use Rattle.listing.proofs.report.put_absent.Goals as goal

pub put_text-requires : goal.put_text-requires
put_text-requires c = search (absent, rules)

pub returns : goal.returns
returns c = search (absent, rules)
