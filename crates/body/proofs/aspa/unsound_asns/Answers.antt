use Rattle.std.proofs.Common.{rules}
use Rattle.body.proofs.Ascent.{sounding}
use Rattle.body.proofs.aspa.unsound_asns.Goals as goal

pub returns-then-before-customer : goal.returns-then-before-customer
returns-then-before-customer c = search (sounding, rules)

pub loop-left-init : goal.loop-left-init
loop-left-init c = search (sounding, rules)

pub returns-then-asn-before : goal.returns-then-asn-before
returns-then-asn-before c = search (sounding, rules)

pub returns-then-asn-customer : goal.returns-then-asn-customer
returns-then-asn-customer c = search (sounding, rules)

pub loop-left-preserved : goal.loop-left-preserved
loop-left-preserved c = search (sounding, rules)

pub returns : goal.returns
returns c = search (sounding, rules)
