use Rattle.std.proofs.Common.{rules}
use Rattle.body.proofs.Bodies.{sound_bodies}
use Rattle.body.proofs.aspa.update_sound.Goals as goal

pub returns-then-body-lt6 : goal.returns-then-body-lt6
returns-then-body-lt6 c = search (sound_bodies, rules)

pub returns-then-body-size : goal.returns-then-body-size
returns-then-body-size c = search (sound_bodies, rules)

pub returns-then-not-providers_sound : goal.returns-then-not-providers_sound
returns-then-not-providers_sound c = search (sound_bodies, rules)

pub returns : goal.returns
returns c = search (sound_bodies, rules)
