use Rattle.std.proofs.Common.{rules}
use Rattle.history.proofs.Laying.{pushing}
use Rattle.history.proofs.stores.push_delta.Goals as goal

pub put_merge-requires : goal.put_merge-requires
put_merge-requires c = search (pushing, rules)

pub returns : goal.returns
returns c = search (pushing, rules)
