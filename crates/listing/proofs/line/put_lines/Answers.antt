use Rattle.std.proofs.Common.{rules}
use Rattle.listing.proofs.Lining.{lining}
use Rattle.listing.proofs.line.put_lines.Goals as goal

pub returns-in-End : goal.returns-in-End
returns-in-End c = search (lining, rules)

pub slice_bounds-put_line-count : goal.slice_bounds-put_line-count
slice_bounds-put_line-count c = search (lining, rules)

pub slice_bounds-put_line-start : goal.slice_bounds-put_line-start
slice_bounds-put_line-start c = search (lining, rules)

pub slice_bounds-put_line-end : goal.slice_bounds-put_line-end
slice_bounds-put_line-end c = search (lining, rules)

pub loop-tag-smaller : goal.loop-tag-smaller
loop-tag-smaller c = search (lining, rules)

pub loop-tag-preserved : goal.loop-tag-preserved
loop-tag-preserved c = search (lining, rules)
