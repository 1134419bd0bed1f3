use Rattle.std.proofs.Common.{rules}
use Rattle.heard.proofs.Hearing.{timing}
use Rattle.heard.proofs.times.times_at.Goals as goal

pub returns-in-Rfc8210 : goal.returns-in-Rfc8210
returns-in-Rfc8210 c = search (timing, rules)
