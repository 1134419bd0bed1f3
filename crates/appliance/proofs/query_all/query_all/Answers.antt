use Rattle.std.proofs.Common.{rules}
use Rattle.appliance.proofs.Gathering.{gathering}
use Rattle.appliance.proofs.query_all.query_all.Goals as goal

pub returns-in-Err : goal.returns-in-Err
returns-in-Err c = search (gathering, rules)

pub loop-k-init : goal.loop-k-init
loop-k-init c = search (gathering, rules)

pub reply_to-t-requires : goal.reply_to-t-requires
reply_to-t-requires c = search (gathering, rules)

pub loop-k-preserved : goal.loop-k-preserved
loop-k-preserved c = search (gathering, rules)

pub returns : goal.returns
returns c = search (gathering, rules)
