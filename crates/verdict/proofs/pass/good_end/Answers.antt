use Rattle.std.proofs.Common.{rules}
use Rattle.verdict.proofs.Passing.{reaching}
use Rattle.verdict.proofs.pass.good_end.Goals as goal

pub slice_bounds-body_sound-count : goal.slice_bounds-body_sound-count
slice_bounds-body_sound-count c = search (reaching, rules)

pub slice_bounds-body_sound-start : goal.slice_bounds-body_sound-start
slice_bounds-body_sound-start c = search (reaching, rules)

pub slice_bounds-body_sound-end : goal.slice_bounds-body_sound-end
slice_bounds-body_sound-end c = search (reaching, rules)

pub returns-else-not-body_sound : goal.returns-else-not-body_sound
returns-else-not-body_sound c = search (reaching, rules)
