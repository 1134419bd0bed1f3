use Rattle.std.proofs.Common.{rules}
use Rattle.heard.proofs.Places.{places}
use Rattle.heard.proofs.place.size_at.Goals as goal

pub returns : goal.returns
returns c = search (places, rules)
