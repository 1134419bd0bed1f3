use Rattle.std.proofs.Common.{rules}
use Rattle.host.proofs.Versions.{versions}
use Rattle.host.proofs.version.version_of.Goals as goal

pub returns-then-number-eq0 : goal.returns-then-number-eq0
returns-then-number-eq0 c = search (versions, rules)

pub returns-else-number-eq0 : goal.returns-else-number-eq0
returns-else-number-eq0 c = search (versions, rules)
