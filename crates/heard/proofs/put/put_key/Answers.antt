use Rattle.std.proofs.Common.{rules}
use Rattle.heard.proofs.Putting.{routers}
use Rattle.heard.proofs.put.put_key.Goals as goal

pub store-requires : goal.store-requires
store-requires c = search (routers, rules)

pub store_two-requires : goal.store_two-requires
store_two-requires c = search (routers, rules)

pub returns : goal.returns
returns c = search (routers, rules)
