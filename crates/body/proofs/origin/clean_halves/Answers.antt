use Rattle.std.proofs.Common.{rules}
use Rattle.body.proofs.Masks.{halving}
use Rattle.body.proofs.origin.clean_halves.Goals as goal

pub returns-then-low-ne0 : goal.returns-then-low-ne0
returns-then-low-ne0 c = search (halving, rules)

pub returns-then-p-lt64 : goal.returns-then-p-lt64
returns-then-p-lt64 c = search (halving, rules)

pub returns-then-p-ge128 : goal.returns-then-p-ge128
returns-then-p-ge128 c = search (halving, rules)

pub returns : goal.returns
returns c = search (halving, rules)
