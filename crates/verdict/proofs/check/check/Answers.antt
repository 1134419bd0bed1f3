use Rattle.std.proofs.Common.{rules}
use Rattle.verdict.proofs.Judging.{judging}
use Rattle.verdict.proofs.Passing.{further}
use Rattle.verdict.proofs.check.check.Goals as goal

pub loop-tag-init : goal.loop-tag-init
loop-tag-init c = search (judging, further, rules)

pub returns-in-End : goal.returns-in-End
returns-in-End c = search (judging, further, rules)

pub returns-in-Cut : goal.returns-in-Cut
returns-in-Cut c = search (judging, further, rules)

pub slice_bounds-body_sound-count : goal.slice_bounds-body_sound-count
slice_bounds-body_sound-count c = search (judging, further, rules)

pub slice_bounds-body_sound-start : goal.slice_bounds-body_sound-start
slice_bounds-body_sound-start c = search (judging, further, rules)

pub slice_bounds-body_sound-end : goal.slice_bounds-body_sound-end
slice_bounds-body_sound-end c = search (judging, further, rules)

pub slice_bounds-refused-count : goal.slice_bounds-refused-count
slice_bounds-refused-count c = search (judging, further, rules)

pub slice_bounds-refused-start : goal.slice_bounds-refused-start
slice_bounds-refused-start c = search (judging, further, rules)

pub slice_bounds-refused-end : goal.slice_bounds-refused-end
slice_bounds-refused-end c = search (judging, further, rules)

pub returns-then-not-body_sound : goal.returns-then-not-body_sound
returns-then-not-body_sound c = search (judging, further, rules)

pub pass-stand-requires : goal.pass-stand-requires
pass-stand-requires c = search (judging, further, rules)

pub loop-tag-smaller : goal.loop-tag-smaller
loop-tag-smaller c = search (judging, further, rules)

pub returns-in-Equal : goal.returns-in-Equal
returns-in-Equal c = search (judging, further, rules)

pub returns-in-Greater : goal.returns-in-Greater
returns-in-Greater c = search (judging, further, rules)
