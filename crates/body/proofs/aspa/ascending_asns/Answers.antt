use Rattle.std.proofs.Common.{rules}
use Rattle.body.proofs.Ascent.{ascent}
use Rattle.body.proofs.aspa.ascending_asns.Goals as goal

pub returns-then-s-lt4 : goal.returns-then-s-lt4
returns-then-s-lt4 c = search (ascent, rules)

pub loop-k-init : goal.loop-k-init
loop-k-init c = search (ascent, rules)

pub returns-then-asn-before : goal.returns-then-asn-before
returns-then-asn-before c = search (ascent, rules)

pub loop-k-preserved : goal.loop-k-preserved
loop-k-preserved c = search (ascent, rules)

pub returns : goal.returns
returns c = search (ascent, rules)
