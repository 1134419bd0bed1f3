use Rattle.std.proofs.Common.{rules}
use Rattle.listing.proofs.Putting.{named_put}
use Rattle.listing.proofs.text.put_named.Goals as goal

pub returns : goal.returns
returns c = search (named_put, rules)
