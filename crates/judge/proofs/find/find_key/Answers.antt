use Rattle.std.proofs.Common.{rules}
use Rattle.judge.proofs.Finding.{keys}
use Rattle.judge.proofs.find.find_key.Goals as goal

pub returns-in_default : goal.returns-in_default
returns-in_default c = search (keys, rules)

pub loop-item-preserved : goal.loop-item-preserved
loop-item-preserved c = search (keys, rules)

pub returns-in-Equal : goal.returns-in-Equal
returns-in-Equal c = search (keys, rules)

pub returns-in-Greater : goal.returns-in-Greater
returns-in-Greater c = search (keys, rules)
