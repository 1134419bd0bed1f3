use Rattle.std.proofs.Common.{rules}
use Rattle.body.proofs.Tags.{tags}
use Rattle.body.proofs.tag.tag_of.Goals as goal

pub returns-in-Snapshot : goal.returns-in-Snapshot
returns-in-Snapshot c = search (tags, rules)

pub returns-in-Delta : goal.returns-in-Delta
returns-in-Delta c = search (tags, rules)
