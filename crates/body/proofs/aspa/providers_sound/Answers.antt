use Rattle.std.proofs.Common.{rules}
use Rattle.body.proofs.Bodies.{sound_bodies}
use Rattle.body.proofs.aspa.providers_sound.Goals as goal

pub returns-then-not-sized : goal.returns-then-not-sized
returns-then-not-sized c = search (sound_bodies, rules)

pub returns-then-s-eq0 : goal.returns-then-s-eq0
returns-then-s-eq0 c = search (sound_bodies, rules)

pub returns : goal.returns
returns c = search (sound_bodies, rules)
