use Rattle.std.proofs.Common.{rules}
use Rattle.judge.proofs.Finding.{exactly}
use Rattle.judge.proofs.find.find_exactly.Goals as goal

pub find_named-requires : goal.find_named-requires
find_named-requires c = search (exactly, rules)

pub find_named-requires-2 : goal.find_named-requires-2
find_named-requires-2 c = search (exactly, rules)
