use Rattle.std.proofs.Common.{rules}
use Rattle.body.proofs.Bodies.{sound_bodies}
use Rattle.body.proofs.aspa.aspa_sound.Goals as goal

pub returns-then-body-lt4 : goal.returns-then-body-lt4
returns-then-body-lt4 c = search (sound_bodies, rules)

pub returns : goal.returns
returns c = search (sound_bodies, rules)
