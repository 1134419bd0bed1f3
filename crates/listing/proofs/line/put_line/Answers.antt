use Rattle.std.proofs.Common.{rules}
use Rattle.listing.proofs.Lining.{line}
use Rattle.listing.proofs.line.put_line.Goals as goal

pub put_text-requires : goal.put_text-requires
put_text-requires c = search (line, rules)

pub returns : goal.returns
returns c = search (line, rules)
