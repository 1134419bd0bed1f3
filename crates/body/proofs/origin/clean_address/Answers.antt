use Rattle.std.proofs.Common.{rules}
use Rattle.body.proofs.Masks.{address_is}
use Rattle.body.proofs.origin.clean_address.Goals as goal

pub returns : goal.returns
returns c = search (address_is, rules)
