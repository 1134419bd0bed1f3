use Rattle.std.proofs.Common.{rules}
use Rattle.wire.proofs.Sending.{asking}
use Rattle.wire.proofs.query.query_messages.Goals as goal

pub returns-then-not-well_formed : goal.returns-then-not-well_formed
returns-then-not-well_formed c = search (asking, rules)

pub returns-then-not-is_session : goal.returns-then-not-is_session
returns-then-not-is_session c = search (asking, rules)

pub returns-then-not-is_served : goal.returns-then-not-is_served
returns-then-not-is_served c = search (asking, rules)

pub serve-requires : goal.serve-requires
serve-requires c = search (asking, rules)

pub returns : goal.returns
returns c = search (asking, rules)
