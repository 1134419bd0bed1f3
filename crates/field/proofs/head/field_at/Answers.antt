use Rattle.std.proofs.Common.{rules}
use Rattle.field.proofs.Fields.{placing}
use Rattle.field.proofs.head.field_at.Goals as goal

pub returns-then-s-at : goal.returns-then-s-at
returns-then-s-at c = search (placing, rules)

pub returns-then-room-lt3 : goal.returns-then-room-lt3
returns-then-room-lt3 c = search (placing, rules)

pub returns-then-room-size : goal.returns-then-room-size
returns-then-room-size c = search (placing, rules)

pub returns : goal.returns
returns c = search (placing, rules)
