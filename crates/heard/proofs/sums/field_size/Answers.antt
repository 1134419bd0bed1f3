use Rattle.std.proofs.Common.{rules}
use Rattle.heard.proofs.Summing.{summing}
use Rattle.heard.proofs.sums.field_size.Goals as goal

pub returns-then-type_at-eq9 : goal.returns-then-type_at-eq9
returns-then-type_at-eq9 c = search (summing, rules)

pub returns : goal.returns
returns c = search (summing, rules)
