use Rattle.std.proofs.Common.{rules}
use Rattle.listing.proofs.Reporting.{three}
use Rattle.listing.proofs.text.put_three.Goals as goal

pub put_named-j-requires : goal.put_named-j-requires
put_named-j-requires c = search (three, rules)

pub put_named-k-requires : goal.put_named-k-requires
put_named-k-requires c = search (three, rules)

pub put_text-requires : goal.put_text-requires
put_text-requires c = search (three, rules)

pub returns : goal.returns
returns c = search (three, rules)
