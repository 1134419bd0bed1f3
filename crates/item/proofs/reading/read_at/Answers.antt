use Rattle.std.proofs.Common.{rules}
use Rattle.item.proofs.Entries.{reading}
use Rattle.item.proofs.reading.read_at.Goals as goal

pub act_at-act-requires : goal.act_at-act-requires
act_at-act-requires c = search (reading, rules)

pub returns-in-End : goal.returns-in-End
returns-in-End c = search (reading, rules)

pub returns-in-Cut : goal.returns-in-Cut
returns-in-Cut c = search (reading, rules)

pub returns-in-Whole : goal.returns-in-Whole
returns-in-Whole c = search (reading, rules)
