use Rattle.std.proofs.Common.{rules}
use Rattle.listing.proofs.Answering.{counting}
use Rattle.listing.proofs.listing.counts_of.Goals as goal

pub measure-requires : goal.measure-requires
measure-requires c = search (counting, rules)

pub returns : goal.returns
returns c = search (counting, rules)
