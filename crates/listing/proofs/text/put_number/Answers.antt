use Rattle.std.proofs.Common.{rules}
use Rattle.listing.proofs.Decimals.{numbers}
use Rattle.listing.proofs.text.put_number.Goals as goal

pub returns : goal.returns
returns c = search (numbers, rules)
