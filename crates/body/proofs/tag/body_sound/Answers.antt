use Rattle.std.proofs.Common.{rules}
use Rattle.body.proofs.Tags.{sound_tags}
use Rattle.body.proofs.tag.body_sound.Goals as goal

pub returns-in-Unknown : goal.returns-in-Unknown
returns-in-Unknown c = search (sound_tags, rules)

pub returns-in-Origin : goal.returns-in-Origin
returns-in-Origin c = search (sound_tags, rules)

pub returns-in-RouterKey : goal.returns-in-RouterKey
returns-in-RouterKey c = search (sound_tags, rules)

pub returns-in-Aspa : goal.returns-in-Aspa
returns-in-Aspa c = search (sound_tags, rules)
