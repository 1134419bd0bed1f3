use Rattle.std.proofs.Common.{rules}
use Rattle.heard.proofs.Comparing.{comparing}
use Rattle.heard.proofs.compare.same_record.Goals as goal

pub returns-then-front_at : goal.returns-then-front_at
returns-then-front_at c = search (comparing, rules)
