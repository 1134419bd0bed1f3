use Rattle.std.proofs.Common.{rules}
use Rattle.cursors.proofs.Fronting.{packing}
use Rattle.cursors.proofs.front.front_of.Goals as goal

pub loop-i-init : goal.loop-i-init
loop-i-init c = search (packing, rules)

pub overflow_mul-front : goal.overflow_mul-front
overflow_mul-front c = search (packing, rules)

pub overflow_add-front : goal.overflow_add-front
overflow_add-front c = search (packing, rules)

pub loop-i-preserved : goal.loop-i-preserved
loop-i-preserved c = search (packing, rules)

pub returns : goal.returns
returns c = search (packing, rules)
