use Rattle.std.proofs.Common.{rules}
use Rattle.heard.proofs.Comparing.{routers}
use Rattle.heard.proofs.compare.compare_keys.Goals as goal

pub returns : goal.returns
returns c = search (routers, rules)
