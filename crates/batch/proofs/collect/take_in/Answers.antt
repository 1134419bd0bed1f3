use Rattle.std.proofs.Common.{rules}
use Rattle.batch.proofs.Collecting.{takings}
use Rattle.batch.proofs.collect.take_in.Goals as goal

pub trim-requires : goal.trim-requires
trim-requires c = search (takings, rules)
