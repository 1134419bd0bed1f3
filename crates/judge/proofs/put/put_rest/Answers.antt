use Rattle.std.proofs.Common.{rules}
use Rattle.judge.proofs.Writing.{resting}
use Rattle.judge.proofs.put.put_rest.Goals as goal

pub settle-end-requires : goal.settle-end-requires
settle-end-requires c = search (resting, rules)

pub returns : goal.returns
returns c = search (resting, rules)
