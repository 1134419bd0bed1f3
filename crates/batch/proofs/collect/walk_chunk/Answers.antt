use Rattle.std.proofs.Common.{rules}
use Rattle.batch.proofs.Collecting.{chunked}
use Rattle.batch.proofs.collect.walk_chunk.Goals as goal

pub is_clear-requires : goal.is_clear-requires
is_clear-requires c = search (chunked, rules)

pub returns-then-is_clear : goal.returns-then-is_clear
returns-then-is_clear c = search (chunked, rules)
