use Rattle.std.proofs.Common.{rules}
use Rattle.listing.proofs.Reporting.{listing}
use Rattle.listing.proofs.report.put_listing.Goals as goal

pub put_lines-requires : goal.put_lines-requires
put_lines-requires c = search (listing, rules)

pub returns : goal.returns
returns c = search (listing, rules)
