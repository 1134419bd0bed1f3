use Rattle.std.proofs.Common.{rules}
use Rattle.appliance.proofs.Turning.{answering}
use Rattle.appliance.proofs.router_turn.answer.Goals as goal

pub share-requires : goal.share-requires
share-requires c = search (answering, rules)

pub returns-in-Stands : goal.returns-in-Stands
returns-in-Stands c = search (answering, rules)
